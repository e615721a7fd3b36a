-- Lists and their indices.
use Rattle.std.proofs.Common.{◌≡◌, ◌<◌, ◌+◌, ◌++◌, ℕ, zero, suc, List, [], ◌∷◌, length, take, None, Some, sym, ap, subst, ◌∙◌, refl, arith}
use Rattle.std.specs.Prelude.{slice_get, map as each}
use Rattle.std.specs.Option.{option_map}
use Rattle.std.specs.List.{AllByRecursion}
use Rattle.std.proofs.lemmas.Option.{slice_get-map, slice_get_within}

pub slice_get-right : {X : Type 0} (xs ys : List X) (k n : ℕ) → n ≡ length xs + k → slice_get (xs ++ ys) n ≡ slice_get ys k
slice_get-right [] ys k n e = ap (slice_get ys) (omega arith)
slice_get-right (y ∷ xs) ys k zero e = absurd (omega arith)
slice_get-right (y ∷ xs) ys k (suc n) e = slice_get-right xs ys k n (omega arith)

-- what a mapped list has comes from the list
pub slice_get-from : {X Y : Type 0} (f : X → Y) (xs : List X) (k : ℕ) (y : Y) → slice_get (each f xs) k ≡ Some y → (x : X) × ((slice_get xs k ≡ Some x) × (f x ≡ y))
slice_get-from f xs k y h = by (slice_get xs k) refl (sym (slice_get-map f xs k) ∙ h)
  where
    by : (o : _) → slice_get xs k ≡ o → option_map f o ≡ Some y → (x : _) × ((slice_get xs k ≡ Some x) × (f x ≡ y))
    by None e h = absurd cc
    by (Some x) e h = let same : f x ≡ y = cc in (x, (e, same))

pub slice_get-to : {X Y : Type 0} (f : X → Y) (xs : List X) (k : ℕ) (x : X) → slice_get xs k ≡ Some x → slice_get (each f xs) k ≡ Some (f x)
slice_get-to f xs k x h = slice_get-map f xs k ∙ ap (option_map f) h

pub slice_get-within : {X : Type 0} (xs : List X) (k : ℕ) → k < length xs → (x : X) × (slice_get xs k ≡ Some x)
slice_get-within [] k h = absurd (omega arith)
slice_get-within (x ∷ xs) zero h = (x, refl)
slice_get-within (x ∷ xs) (suc k) h = slice_get-within xs k (omega arith)

pub all_at : {X : Type 0} (P : X → Type 0) (xs : List X) (k : ℕ) (x : X) → AllByRecursion P xs → slice_get xs k ≡ Some x → P x
all_at P [] k x a h = absurd (let w = slice_get_within [] k x h in omega arith)
all_at P (y ∷ xs) zero x a h = let e : y ≡ x = cc in subst P e a.0
all_at P (y ∷ xs) (suc k) x a h = all_at P xs k x a.1 h

pub slice_get-take : {X : Type 0} (xs : List X) (n k : ℕ) → k < n → slice_get (take n xs) k ≡ slice_get xs k
slice_get-take xs zero k h = absurd (omega arith)
slice_get-take [] (suc n) k h = refl
slice_get-take (x ∷ xs) (suc n) zero h = refl
slice_get-take (x ∷ xs) (suc n) (suc k) h = slice_get-take xs n k (omega arith)
