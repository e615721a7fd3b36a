-- Numbers that stop at the greatest one of 64 bits.
use Rattle.std.proofs.Common.{◌≡◌, ◌≤◌, ◌*◌, ◌-◌, ◌^◌, ℕ, zero, suc, min, max, inl, inr, ap, ◌∙◌, arith}
use Rattle.std.proofs.Math.Nat.{le-mul_of_pos_right}
use Rattle.std.proofs.lemmas.Bool.Decides.{leb_tells}

-- up to 1,000,000 it does not matter that the number stopped
stopped : (n : ℕ) → min (min n (2 ^ 64 - 1)) 1_000_000 ≡ min n 1_000_000
stopped n = omega arith

stopped_factor : (most count : ℕ) → min (min most (2 ^ 64 - 1) * suc count) 1_000_000 ≡ min (most * suc count) 1_000_000
stopped_factor most count = elim (leb_tells most (2 ^ 64 - 1)) [
  | inl small ↦ let is : min most (2 ^ 64 - 1) ≡ most = omega (arith, small.1) in ap (λ (n : ℕ). min (n * suc count) 1_000_000) is
  | inr great ↦
      let is : min most (2 ^ 64 - 1) ≡ 2 ^ 64 - 1 = omega (arith, great.1) in
      let first : min most (2 ^ 64 - 1) ≤ min most (2 ^ 64 - 1) * suc count = le-mul_of_pos_right (min most (2 ^ 64 - 1)) (omega arith) in
      let whole : most ≤ most * suc count = le-mul_of_pos_right most (omega arith) in
      omega (arith, is, first, whole, great.1)
]

factor : (most count : ℕ) → min (min most (2 ^ 64 - 1) * count) 1_000_000 ≡ min (most * count) 1_000_000
factor most zero = omega arith
factor most (suc count) = stopped_factor most count

-- a product that stops there is the same up to 1,000,000
pub stopped_product : (most count : ℕ) → max 1 (min (min (min most (2 ^ 64 - 1) * count) (2 ^ 64 - 1)) 1_000_000) ≡ max 1 (min (most * count) 1_000_000)
stopped_product most count = ap (max 1) (stopped (min most (2 ^ 64 - 1) * count) ∙ factor most count)
