-- Elements by their numbers.
use Rattle.std.proofs.Common.{◌≡◌, ℕ, zero, suc, ◌+◌, ◌<◌, ◌≤◌, Bool, true, false, List, [], ◌∷◌, ◌++◌, length, replicate, sum_by, slice_get, Some, refl, ap, subst, ◌∙◌, arith}
use Rattle.std.proofs.lemmas.List.Sums.{sum_by-cons}
use Rattle.std.proofs.lemmas.Option.{get_or_from_slice_get, slice_get_within}
use Rattle.std.specs.List.{All}

pub get-left : {X : Type 0} (xs ys : List X) (k : ℕ) → k < length xs → slice_get (xs ++ ys) k ≡ slice_get xs k
get-left [] ys k lt = absurd (omega arith)
get-left (x ∷ xs) ys zero lt = refl
get-left (x ∷ xs) ys (suc k) lt = get-left xs ys k (omega arith)

pub get-right : {X : Type 0} (xs ys : List X) (n k : ℕ) → length xs ≡ n → slice_get (xs ++ ys) (n + k) ≡ slice_get ys k
get-right [] ys n k len = let e : n + k ≡ k = omega arith in ap (slice_get ys) e
get-right (x ∷ xs) ys zero k len = absurd (omega arith)
get-right (x ∷ xs) ys (suc n) k len = let e : suc n + k ≡ suc (n + k) = omega arith in ap (slice_get (x ∷ (xs ++ ys))) e ∙ get-right xs ys n k (omega arith)

pub get-replicate : {X : Type 0} (n k : ℕ) (x : X) → k < n → slice_get (replicate n x) k ≡ Some x
get-replicate zero k x lt = absurd (omega arith)
get-replicate (suc n) zero x lt = refl
get-replicate (suc n) (suc k) x lt = get-replicate n k x (omega arith)

-- what holds of each holds of this one
pub All-at : {X : Type 0} (P : X → Type 0) (xs : List X) (k : ℕ) (x : X) → slice_get xs k ≡ Some x → All P xs → P x
All-at P xs k x e h = subst P (get_or_from_slice_get xs k x x e) (h k x (slice_get_within xs k x e))

-- ---- how many pass a test

abbrev pub one_if : Bool → ℕ
one_if true = 1
one_if false = 0

abbrev pub passing : {X : Type 0} → (X → Bool) → List X → ℕ
passing f xs = sum_by (λ x. one_if (f x)) xs

pub passing-cons : {X : Type 0} (f : X → Bool) (x : X) (xs : List X) → passing f (x ∷ xs) ≡ one_if (f x) + passing f xs
passing-cons f x xs = sum_by-cons (λ y. one_if (f y)) x xs

at_least : {X : Type 0} (f : X → Bool) (xs : List X) (n : ℕ) (x : X) → slice_get xs n ≡ Some x → f x ≡ true → 1 ≤ passing f xs
at_least f [] n x e h = cc
at_least f (y ∷ xs) zero x e h =
    let same : y ≡ x = cc in
    let one = passing-cons f y xs in
    let is : one_if (f y) ≡ 1 = ap one_if (ap f same ∙ h) in
    omega arith
at_least f (y ∷ xs) (suc n) x e h = let later = at_least f xs n x e h in let all = passing-cons f y xs in omega arith

-- where at most one passes, it has one number
pub one-number : {X : Type 0} (f : X → Bool) (xs : List X) (m n : ℕ) (x y : X) → passing f xs ≤ 1 → slice_get xs m ≡ Some x → f x ≡ true → slice_get xs n ≡ Some y → f y ≡ true → m ≡ n
one-number f [] m n x y le a p b q = cc
one-number f (z ∷ xs) zero zero x y le a p b q = refl
one-number f (z ∷ xs) zero (suc n) x y le a p b q =
    let same : z ≡ x = cc in
    let all = passing-cons f z xs in
    let is : one_if (f z) ≡ 1 = ap one_if (ap f same ∙ p) in
    let more = at_least f xs n y b q in
    absurd (omega arith)
one-number f (z ∷ xs) (suc m) zero x y le a p b q =
    let same : z ≡ y = cc in
    let all = passing-cons f z xs in
    let is : one_if (f z) ≡ 1 = ap one_if (ap f same ∙ q) in
    let more = at_least f xs m x a p in
    absurd (omega arith)
one-number f (z ∷ xs) (suc m) (suc n) x y le a p b q =
    let all = passing-cons f z xs in
    ap suc (one-number f xs m n x y (omega arith) a p b q)

number-step : {X : Type 0} (f : X → Bool) (z : X) (xs : List X) (b : Bool) → f z ≡ b → (passing f xs ≡ 1 → (n : ℕ) × (x : X) × (slice_get xs n ≡ Some x) × (f x ≡ true)) → passing f (z ∷ xs) ≡ 1
    → (n : ℕ) × (x : X) × (slice_get (z ∷ xs) n ≡ Some x) × (f x ≡ true)
number-step f z xs true is later e = (0, z, refl, is)
number-step f z xs false is later e =
    let all = passing-cons f z xs in
    let none : one_if (f z) ≡ 0 = ap one_if is in
    let h = later (omega arith) in
    (suc h.0, h.1, h.2, h.3)

-- where one passes, it has a number
pub number-of : {X : Type 0} (f : X → Bool) (xs : List X) → passing f xs ≡ 1 → (n : ℕ) × (x : X) × (slice_get xs n ≡ Some x) × (f x ≡ true)
number-of f [] e = absurd (omega arith)
number-of f (z ∷ xs) e = number-step f z xs (f z) refl (number-of f xs) e
