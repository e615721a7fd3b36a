-- Blocks that are at least half full.
use Rattle.std.proofs.Common.{◌≡◌, ℕ, zero, suc, ◌<◌, ◌≤◌, ◌+◌, ◌*◌, ◌&&◌, true, List, [], ◌∷◌, length, get_or, refl, length-append, length-set, arith}
use Rattle.std.specs.Prelude.{insert, set, nat_lt}
use Rattle.std.proofs.lemmas.Bool.{ltb-true, lt-ltb, and_from, and_parts}
use Rattle.rga_tree.specs.declared.element.Element.{Element}
use Rattle.rga_sequence.specs.Blocks.{joined}
use Rattle.rga_sequence.specs.BlockRows.{are_halves, AreHalfFull}

is_half : (x : List Element) → 255 < length x → nat_lt 255 (length x) ≡ true
is_half x h = lt-ltb 255 (length x) h

pub halves_sum : (xs : List (List Element)) → are_halves xs ≡ true → 256 * length xs ≤ length (joined xs)
halves_sum [] h = omega arith
halves_sum (x ∷ xs) h =
    let p = and_parts (nat_lt 255 (length x)) (are_halves xs) h in
    let here : 255 < length x = ltb-true _ _ p.0 in
    omega (arith, halves_sum xs p.1, length-append x (joined xs))

halves_full : (xs : List (List Element)) (q : ℕ) → are_halves xs ≡ true → q < length xs → length (get_or xs q []) ≡ 512 → 256 * (length xs + 1) ≤ length (joined xs)
halves_full [] q h there full = absurd (omega arith)
halves_full (x ∷ xs) zero h there full =
    let p = and_parts (nat_lt 255 (length x)) (are_halves xs) h in
    omega (arith, halves_sum xs p.1, length-append x (joined xs))
halves_full (x ∷ xs) (suc q) h there full =
    let p = and_parts (nat_lt 255 (length x)) (are_halves xs) h in
    let here : 255 < length x = ltb-true _ _ p.0 in
    omega (arith, halves_full xs q p.1 (omega arith) full, length-append x (joined xs))

-- a full block among half full ones
pub full_paid : (xs : List (List Element)) (q : ℕ) → AreHalfFull xs → q < length xs → length (get_or xs q []) ≡ 512 → 256 * (length xs + 1) ≤ length (joined xs)
full_paid [] q h there full = absurd (omega arith)
full_paid (x ∷ []) zero h there full = omega (arith, length-append x [])
full_paid (x ∷ []) (suc q) h there full = absurd (omega arith)
full_paid (x ∷ y ∷ xs) q h there full = halves_full (x ∷ y ∷ xs) q (h (omega arith)) there full

pub few_blocks : (xs : List (List Element)) → AreHalfFull xs → 256 * length xs ≤ length (joined xs) + 256
few_blocks [] h = omega arith
few_blocks (x ∷ []) h = omega arith
few_blocks (x ∷ y ∷ xs) h = omega (arith, halves_sum (x ∷ y ∷ xs) (h (omega arith)))

halves-set : (xs : List (List Element)) (q : ℕ) (y : List Element) → are_halves xs ≡ true → length (get_or xs q []) ≤ length y → are_halves (set xs q y) ≡ true
halves-set [] zero y h more = refl
halves-set [] (suc q) y h more = refl
halves-set (x ∷ xs) zero y h more =
    let p = and_parts (nat_lt 255 (length x)) (are_halves xs) h in
    let here : 255 < length x = ltb-true _ _ p.0 in
    and_from (nat_lt 255 (length y)) (are_halves xs) (is_half y (omega arith)) p.1
halves-set (x ∷ xs) (suc q) y h more =
    let p = and_parts (nat_lt 255 (length x)) (are_halves xs) h in
    and_from (nat_lt 255 (length x)) (are_halves (set xs q y)) p.0 (halves-set xs q y p.1 more)

-- a block that becomes no shorter
pub AreHalfFull-set : (xs : List (List Element)) (q : ℕ) (y : List Element) → AreHalfFull xs → length (get_or xs q []) ≤ length y → AreHalfFull (set xs q y)
AreHalfFull-set xs q y h more = λ many. halves-set xs q y (h (omega (arith, length-set xs q y, many))) more

halves_split : (xs : List (List Element)) (q : ℕ) (low high : List Element) → are_halves xs ≡ true → q < length xs → 255 < length low → 255 < length high → are_halves (insert (set xs q low) (suc q) high) ≡ true
halves_split [] q low high h there l r = absurd (omega arith)
halves_split (x ∷ xs) zero low high h there l r =
    let p = and_parts (nat_lt 255 (length x)) (are_halves xs) h in
    and_from (nat_lt 255 (length low)) (nat_lt 255 (length high) && are_halves xs) (is_half low l) (and_from (nat_lt 255 (length high)) (are_halves xs) (is_half high r) p.1)
halves_split (x ∷ xs) (suc q) low high h there l r =
    let p = and_parts (nat_lt 255 (length x)) (are_halves xs) h in
    and_from (nat_lt 255 (length x)) (are_halves (insert (set xs q low) (suc q) high)) p.0 (halves_split xs q low high p.1 (omega arith) l r)

-- two halves in place of a block
pub AreHalfFull-split : (xs : List (List Element)) (q : ℕ) (low high : List Element) → AreHalfFull xs → q < length xs → 255 < length low → 255 < length high → AreHalfFull (insert (set xs q low) (q + 1) high)
AreHalfFull-split xs q low high h there l r = let s : q + 1 ≡ suc q = omega arith in rw s (λ _. by_row xs q h there) where
  by_row : (xs : List (List Element)) (q : ℕ) → AreHalfFull xs → q < length xs → are_halves (insert (set xs q low) (suc q) high) ≡ true
  by_row [] q h there = absurd (omega arith)
  by_row (x ∷ []) zero h there = and_from (nat_lt 255 (length low)) (nat_lt 255 (length high) && true) (is_half low l) (and_from (nat_lt 255 (length high)) true (is_half high r) refl)
  by_row (x ∷ []) (suc q) h there = absurd (omega arith)
  by_row (x ∷ y ∷ xs) q h there = halves_split (x ∷ y ∷ xs) q low high (h (omega arith)) there l r
