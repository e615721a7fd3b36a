-- What numbers from 0 on come to.
use Rattle.std.proofs.Common.{◌≡◌, ℕ, zero, suc, ◌+◌, ◌<◌, ◌≤◌, List, ◌∷◌, ◌++◌, map, length, slice_get, Some, refl, ap, subst, ◌∙◌, arith}
use Rattle.std.proofs.lemmas.List.{take_at, drop_at}
use Rattle.std.proofs.lemmas.List.Elements.{All-take, All-drop}
use Rattle.std.proofs.lemmas.List.FromFn.{length-map-range_with_len, get_or-map-range_with_len}
use Rattle.std.proofs.lemmas.Option.{slice_get-get_or}
use Rattle.std.specs.List.{All, range_with_len}

-- two functions that agree at each of the numbers
pub map-range-same : {X : Type 0} (f g : ℕ → X) (from n : ℕ) → ((k : ℕ) → from ≤ k → k < from + n → f k ≡ g k) → map f (range_with_len from n) ≡ map g (range_with_len from n)
map-range-same f g from zero same = refl
map-range-same f g from (suc n) same =
    ap (λ x. x ∷ map f (range_with_len (from + 1) n)) (same from (omega arith) (omega arith))
    ∙ ap (λ l. g from ∷ l) (map-range-same f g (from + 1) n (λ k low high. same k (omega arith) (omega arith)))

module _ {X : Type 0} (f : ℕ → X) (n : ℕ) where
  pub get-numbered : (k : ℕ) → k < n → slice_get (map f (range_with_len 0 n)) k ≡ Some (f k)
  get-numbered k lt =
      let len = length-map-range_with_len f 0 n in
      let within : k < length (map f (range_with_len 0 n)) = omega arith in
      slice_get-get_or (map f (range_with_len 0 n)) k (f k) within ∙ ap Some (get_or-map-range_with_len f 0 n k k (f k) lt (omega arith))

  -- what holds of each holds at a number
  pub at-number : (P : X → Type 0) → All P (map f (range_with_len 0 n)) → (k : ℕ) → k < n → P (f k)
  at-number P all k lt =
      let len = length-map-range_with_len f 0 n in
      let within : k < length (map f (range_with_len 0 n)) = omega arith in
      subst P (get_or-map-range_with_len f 0 n k k (f k) lt (omega arith)) (all k (f k) within)

-- what holds of each of two lists' elements holds of each one's
module _ {X : Type 0} (P : X → Type 0) (xs ys : List X) (all : All P (xs ++ ys)) where
  pub All-front : All P xs
  All-front = subst (All P) (take_at xs ys (length xs) refl) (All-take P (length xs) (xs ++ ys) all)

  pub All-back : All P ys
  All-back = subst (All P) (drop_at xs ys (length xs) refl) (All-drop P (length xs) (xs ++ ys) all)
