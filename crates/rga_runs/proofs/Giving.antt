-- A list that gives its last elements to the next one.
use Rattle.std.proofs.Common.{◌≡◌, ℕ, zero, suc, ◌<◌, ◌≤◌, ◌+◌, List, [], ◌∷◌, ◌++◌, length, take, drop, get_or, refl, sym, ap, ◌∙◌, append_assoc, length-take-le, arith}
use Rattle.std.proofs.lemmas.List.{take-append-drop, length-set}
use Rattle.std.specs.Prelude.{set}
use Rattle.rga_runs.specs.Blocks.{AreHalfFull}
use Rattle.rga_runs.proofs.Chunks.{row, at}
use Rattle.rga_runs.proofs.Halves.{AreHalfFull-set}

-- what stands in both stays
row-given : {X : Type 0} (xs : List (List X)) (q : ℕ) (low high : List X) → suc q < length xs → get_or xs q [] ≡ low ++ high → row (set (set xs q low) (suc q) (high ++ get_or xs (suc q) [])) ≡ row xs
row-given [] q low high there is = absurd (omega (arith, there))
row-given (x ∷ []) zero low high there is = absurd (omega (arith, there))
row-given (x ∷ y ∷ xs) zero low high there is =
    ap (λ r. low ++ r) (append_assoc high y (row xs)) ∙ sym (append_assoc low high (y ++ row xs)) ∙ ap (λ z. z ++ (y ++ row xs)) (sym is)
row-given (x ∷ xs) (suc q) low high there is = ap (λ r. x ++ r) (row-given xs q low high (omega (arith, there)) is)

front-given : {X : Type 0} (xs : List (List X)) (q : ℕ) (low next : List X) → take q (set (set xs q low) (suc q) next) ≡ take q xs
front-given [] zero low next = refl
front-given [] (suc q) low next = refl
front-given (x ∷ xs) zero low next = refl
front-given (x ∷ xs) (suc q) low next = ap (λ r. x ∷ r) (front-given xs q low next)

low-given : {X : Type 0} (xs : List (List X)) (q : ℕ) (low next : List X) → q < length xs → get_or (set (set xs q low) (suc q) next) q [] ≡ low
low-given [] q low next there = absurd (omega (arith, there))
low-given (x ∷ xs) zero low next there = refl
low-given (x ∷ xs) (suc q) low next there = low-given xs q low next (omega (arith, there))

next-set : {X : Type 0} (xs : List (List X)) (q : ℕ) (y : List X) → get_or (set xs q y) (suc q) [] ≡ get_or xs (suc q) []
next-set [] zero y = refl
next-set [] (suc q) y = refl
next-set (x ∷ xs) zero y = refl
next-set (x ∷ xs) (suc q) y = next-set xs q y

-- one that is half full, in place of another
half-set : {X : Type 0} (xs : List (List X)) (q r : ℕ) (y : List X) → 128 ≤ length y → 128 ≤ length (get_or xs r []) → 128 ≤ length (get_or (set xs q y) r [])
half-set [] zero r y half there = there
half-set [] (suc q) r y half there = there
half-set (x ∷ xs) zero zero y half there = half
half-set (x ∷ xs) zero (suc r) y half there = there
half-set (x ∷ xs) (suc q) zero y half there = there
half-set (x ∷ xs) (suc q) (suc r) y half there = half-set xs q r y half there

AreHalfFull-half : {X : Type 0} (xs : List (List X)) (q : ℕ) (y : List X) → AreHalfFull xs → 128 ≤ length y → AreHalfFull (set xs q y)
AreHalfFull-half xs q y h half r less = half-set xs q r y half (h r (omega (arith, less, length-set xs q y)))

pub AreHalfFull-given : {X : Type 0} (xs : List (List X)) (q : ℕ) (low next : List X) → AreHalfFull xs → 128 ≤ length low → length (get_or xs (q + 1) []) ≤ length next → AreHalfFull (set (set xs q low) (q + 1) next)
AreHalfFull-given xs q low next h half more =
    let e : q + 1 ≡ suc q = omega arith in
    let same = ap (λ n. length (get_or (set xs q low) n [])) e ∙ ap length (next-set xs q low) ∙ ap (λ n. length (get_or xs n [])) (sym e) in
    AreHalfFull-set (set xs q low) (q + 1) next (AreHalfFull-half xs q low h half) (omega (arith, same, more))

pub record IsGiven {X : Type 0} (xs ys : List (List X)) (q cut : ℕ) : Type 0 where
  pub same : row ys ≡ row xs
  pub place : at ys q cut ≡ at xs q cut
  pub low : length (get_or ys q []) ≡ cut

pub is_given : {X : Type 0} (xs ys : List (List X)) (q cut : ℕ) → q + 1 < length xs → cut ≤ length (get_or xs q [])
    → ys ≡ set (set xs q (take cut (get_or xs q []))) (q + 1) (drop cut (get_or xs q []) ++ get_or xs (q + 1) []) → IsGiven xs ys q cut
is_given xs ys q cut there within is =
    let x = get_or xs q [] in
    let low = take cut x in
    let high = drop cut x in
    let next = high ++ get_or xs (suc q) [] in
    let e : q + 1 ≡ suc q = omega arith in
    let given : ys ≡ set (set xs q low) (suc q) next = is ∙ ap (λ n. set (set xs q low) n (high ++ get_or xs n [])) e in
    record {
      same = ap row given ∙ row-given xs q low high (omega (arith, there)) (sym (take-append-drop cut x));
      place = ap (λ zs. at zs q cut) given ∙ ap (λ r. length (row r) + cut) (front-given xs q low next);
      low = ap (λ zs. length (get_or zs q [])) given ∙ ap length (low-given xs q low next (omega (arith, there))) ∙ length-take-le cut x within;
    }
