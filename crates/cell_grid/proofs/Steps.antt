-- One element of a list, and one more.
use Rattle.std.proofs.Common.{◌≡◌, ℕ, zero, suc, ◌+◌, ◌-◌, ◌<◌, ◌≤◌, List, [], ◌∷◌, ◌++◌, map, length, take, drop, slice_range, get_or, set, flat_map, slice_get, Some, refl, sym, ap, subst, ◌∙◌, arith, append-nil, drop-cons}
use Rattle.std.proofs.Math.Seq.{take-add}
use Rattle.std.proofs.lemmas.List.{take_more, drop-drop, length-drop}
use Rattle.std.proofs.lemmas.List.Concat.{flat_map-append, flat_map-cons}
use Rattle.std.proofs.lemmas.Option.{get_or_from_slice_get, slice_get_within}
use Rattle.std.specs.List.{All}

-- what holds of each element holds of the one at a place
pub all_at : {A : Type 0} (P : A → Type 0) (xs : List A) (k : ℕ) (x : A) → All P xs → slice_get xs k ≡ Some x → P x
all_at P xs k x all is = subst P (get_or_from_slice_get xs k x x is) (all k x (slice_get_within xs k x is))

-- the rest from an element on begins with it
pub drop-next : {X : Type 0} (xs : List X) (i : ℕ) (x d : X) → i < length xs → x ≡ get_or xs i d → drop i xs ≡ x ∷ drop (i + 1) xs
drop-next xs i x d lt is =
    let e : suc i ≡ i + 1 = omega arith in
    drop-cons xs i d lt ∙ ap (λ k. k ∷ drop (suc i) xs) (sym is) ∙ ap (λ j. x ∷ drop j xs) e

pub drop-none : {X : Type 0} (xs : List X) (i : ℕ) → length xs ≤ i → drop i xs ≡ []
drop-none [] zero le = refl
drop-none [] (suc i) le = refl
drop-none (x ∷ xs) zero le = absurd (omega arith)
drop-none (x ∷ xs) (suc i) le = drop-none xs i (omega arith)

pub take-next : {X : Type 0} (xs : List X) (i : ℕ) (x d : X) → i < length xs → x ≡ get_or xs i d → take (i + 1) xs ≡ take i xs ++ x ∷ []
take-next xs i x d lt is = take_more xs i d lt ∙ ap (λ k. take i xs ++ k ∷ []) (sym is)

pub take-whole : {X : Type 0} (xs : List X) (i : ℕ) → length xs ≤ i → take i xs ≡ xs
take-whole [] zero le = refl
take-whole [] (suc i) le = refl
take-whole (x ∷ xs) zero le = absurd (omega arith)
take-whole (x ∷ xs) (suc i) le = ap (λ l. x ∷ l) (take-whole xs i (omega arith))

-- a stretch up to the end
pub slice-end : {X : Type 0} (xs : List X) (i : ℕ) → slice_range xs i (length xs) ≡ drop i xs
slice-end xs i = let n = length-drop i xs in take-whole (drop i xs) (length xs - i) (omega arith)

-- a stretch in two parts
pub slice-parts : {X : Type 0} (xs : List X) (i j k : ℕ) → i ≤ j → j ≤ k → slice_range xs i k ≡ slice_range xs i j ++ slice_range xs j k
slice-parts xs i j k ij jk =
    let e : k - i ≡ (j - i) + (k - j) = omega arith in
    let f : i + (j - i) ≡ j = omega arith in
    ap (λ n. take n (drop i xs)) e ∙ take-add (j - i) (k - j) (drop i xs)
    ∙ ap (λ t. take (j - i) (drop i xs) ++ take (k - j) t) (drop-drop (j - i) i xs ∙ ap (λ n. drop n xs) f)

-- what one more element adds to a list of lists, and what follows it
module _ {X Y : Type 0} (f : X → List Y) (xs : List X) (i : ℕ) (x d : X) (lt : i < length xs) (is : x ≡ get_or xs i d) where
  pub flat_map-take_next : flat_map f (take (i + 1) xs) ≡ flat_map f (take i xs) ++ f x
  flat_map-take_next =
      ap (flat_map f) (take-next xs i x d lt is)
      ∙ flat_map-append f (take i xs) (x ∷ [])
      ∙ ap (λ t. flat_map f (take i xs) ++ t) (flat_map-cons f x [] ∙ append-nil (f x))

  pub flat_map-split_at : flat_map f xs ≡ flat_map f (take i xs) ++ (f x ++ flat_map f (drop (i + 1) xs))
  flat_map-split_at =
      ap (flat_map f) (sym (split i xs))
      ∙ flat_map-append f (take i xs) (drop i xs)
      ∙ ap (λ t. flat_map f (take i xs) ++ t) (ap (flat_map f) (drop-next xs i x d lt is) ∙ flat_map-cons f x (drop (i + 1) xs))
    where
      split : (i : ℕ) (xs : List X) → take i xs ++ drop i xs ≡ xs
      split zero xs = refl
      split (suc i) [] = refl
      split (suc i) (x ∷ xs) = ap (λ l. x ∷ l) (split i xs)

-- a list that is changed element by element
module _ {X : Type 0} (f : X → X) where
  pub halfway : List X → ℕ → List X
  halfway xs i = map f (take i xs) ++ drop i xs

  pub halfway-start : (xs : List X) → xs ≡ halfway xs 0
  unfolding halfway
  halfway-start xs = refl

  pub halfway-end : (xs : List X) (i : ℕ) → length xs ≤ i → halfway xs i ≡ map f xs
  unfolding halfway
  halfway-end xs i le = ap (λ l. map f l ++ drop i xs) (take-whole xs i le) ∙ ap (λ l. map f xs ++ l) (drop-none xs i le) ∙ append-nil (map f xs)

  pub halfway-get : (xs : List X) (i : ℕ) (d : X) → i < length xs → get_or (halfway xs i) i d ≡ get_or xs i d
  unfolding halfway
  halfway-get [] i d lt = absurd (omega arith)
  halfway-get (x ∷ xs) zero d lt = refl
  halfway-get (x ∷ xs) (suc i) d lt = halfway-get xs i d (omega arith)

  set-suc : (xs : List X) (i : ℕ) (d v : X) → i < length xs → v ≡ f (get_or xs i d) → set (halfway xs i) i v ≡ halfway xs (suc i)
  unfolding halfway
  set-suc [] i d v lt is = absurd (omega arith)
  set-suc (x ∷ xs) zero d v lt is = ap (λ y. y ∷ xs) is
  set-suc (x ∷ xs) (suc i) d v lt is = ap (λ l. f x ∷ l) (set-suc xs i d v (omega arith) is)

  pub halfway-set : (xs : List X) (i : ℕ) (d v : X) → i < length xs → v ≡ f (get_or xs i d) → set (halfway xs i) i v ≡ halfway xs (i + 1)
  halfway-set xs i d v lt is = let e : suc i ≡ i + 1 = omega arith in set-suc xs i d v lt is ∙ ap (halfway xs) e
