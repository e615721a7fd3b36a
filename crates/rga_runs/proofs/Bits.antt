-- Numbers as rows of bits.
use Rattle.std.proofs.Common.{◌≡◌, ℕ, zero, suc, ◌<◌, ◌≤◌, ◌+◌, ◌-◌, ◌*◌, ◌/◌, ◌%◌, ◌^◌, Bool, true, false, cond, refl, ap, ◌∙◌, arith}
use Rattle.std.specs.Prelude.{nat_eq}
use Rattle.std.proofs.lemmas.Nat.{shr-shr}
use Rattle.std.proofs.Math.Nat.{pow-succ'}
use Rattle.rga_runs.specs.Typed.{is_odd, bits_from, unset}

pub twice : (k : ℕ) → 2 ^ suc k ≡ 2 * 2 ^ k
twice k = pow-succ' 2 k

-- what a character counts as among the visible ones
abbrev pub weigh : Bool → ℕ
weigh b = cond b 0 1

low_bit : (m : ℕ) → is_odd m ≡ false → m % 2 ≡ 0
low_bit m h = by_rest (m % 2) refl h where
  by_rest : (r : ℕ) → m % 2 ≡ r → nat_eq r 1 ≡ false → m % 2 ≡ 0
  by_rest zero is h = is
  by_rest (suc zero) is h = absurd cc
  by_rest (suc (suc r)) is h = absurd (omega (arith, is))

is_odd-of : (m r : ℕ) → m % 2 ≡ r → is_odd m ≡ nat_eq r 1
is_odd-of m r is = ap (λ n. nat_eq n 1) is

pub odd_up : (m : ℕ) → is_odd m ≡ false → is_odd (m + 1) ≡ true
odd_up m h = let even = low_bit m h in is_odd-of (m + 1) 1 (omega (arith, even))

pub half_up : (m : ℕ) → is_odd m ≡ false → (m + 1) / 2 ≡ m / 2
half_up m h = let even = low_bit m h in omega (arith, even)

pub odd_more : (m x : ℕ) → is_odd (m + 2 * x) ≡ is_odd m
odd_more m x = is_odd-of (m + 2 * x) (m % 2) (omega arith)

pub half_more : (m x : ℕ) → (m + 2 * x) / 2 ≡ m / 2 + x
half_more m x = omega arith

pub bits_from-none : (k : ℕ) → bits_from k 0 ≡ 0
bits_from-none zero = refl
bits_from-none (suc k) = bits_from-none k

-- a shift
pub bits_from-is : (k m : ℕ) → bits_from k m ≡ m / 2 ^ k
bits_from-is zero m = omega arith
bits_from-is (suc k) m = let e : 1 + k ≡ suc k = omega arith in bits_from-is k (m / 2) ∙ shr-shr m 1 k ∙ ap (λ j. m / 2 ^ j) e

pub bits_from_le : (k m : ℕ) → bits_from k m ≤ m
bits_from_le zero m = omega arith
bits_from_le (suc k) m = let rest = bits_from_le k (m / 2) in omega (arith, rest)

pub unset-more : (k m : ℕ) → unset (suc k) m ≡ unset k m + weigh (is_odd (bits_from k m))
unset-more zero m = omega arith
unset-more (suc k) m = let rest = unset-more k (m / 2) in omega (arith, rest)

pub unset-add : (j k m : ℕ) → unset (k + j) m ≡ unset k m + unset j (bits_from k m)
unset-add j zero m = let e : 0 + j ≡ j = omega arith in ap (λ n. unset n m) e ∙ omega arith
unset-add j (suc k) m =
    let e : suc k + j ≡ suc (k + j) = omega arith in
    let rest = unset-add j k (m / 2) in
    ap (λ n. unset n m) e ∙ omega (arith, rest)

pub unset_le : (k m : ℕ) → unset k m ≤ k
unset_le zero m = omega arith
unset_le (suc k) m =
    let rest = unset_le k (m / 2) in
    elim (is_odd m) as (λ b. weigh b + unset k (m / 2) ≤ suc k) [ true ↦ omega (arith, rest) | false ↦ omega (arith, rest) ]

pub unset-none : (k : ℕ) → unset k 0 ≡ k
unset-none zero = refl
unset-none (suc k) = let rest = unset-none k in omega (arith, rest)

-- with bit k set, which wasn't
pub unset-set : (n k m : ℕ) → k < n → is_odd (bits_from k m) ≡ false → unset n (m + 2 ^ k) + 1 ≡ unset n m
unset-set zero k m less h = absurd (omega arith)
unset-set (suc n) zero m less h =
    let nothing : ℕ = 0 in
    let now : weigh (is_odd (m + 1)) ≡ nothing = ap weigh (odd_up m h) in
    let one : ℕ = 1 in
    let was : weigh (is_odd m) ≡ one = ap weigh h in
    let rest : unset n ((m + 1) / 2) ≡ unset n (m / 2) = ap (unset n) (half_up m h) in
    omega (arith, now, was, rest)
unset-set (suc n) (suc k) m less h =
    let double : m + 2 ^ suc k ≡ m + 2 * 2 ^ k = ap (λ x. m + x) (twice k) in
    let low : weigh (is_odd (m + 2 ^ suc k)) ≡ weigh (is_odd m) = ap weigh (ap is_odd double ∙ odd_more m (2 ^ k)) in
    let rest : unset n ((m + 2 ^ suc k) / 2) ≡ unset n (m / 2 + 2 ^ k) = ap (unset n) (ap (λ x. x / 2) double ∙ half_more m (2 ^ k)) in
    let more = unset-set n k (m / 2) (omega arith) h in
    omega (arith, low, rest, more)

-- it still has n bits
pub set_below : (n k m : ℕ) → k < n → m < 2 ^ n → is_odd (bits_from k m) ≡ false → m + 2 ^ k < 2 ^ n
set_below zero k m less small h = absurd (omega arith)
set_below (suc n) zero m less small h =
    let even = low_bit m h in
    let wide = twice n in
    omega (arith, even, wide, small)
set_below (suc n) (suc k) m less small h =
    let wide = twice n in
    let double = twice k in
    let rest = set_below n k (m / 2) (omega arith) (omega (arith, wide, small)) h in
    omega (arith, rest, wide, double)

pub weigh_le : (b : Bool) → weigh b ≤ 1
weigh_le true = omega arith
weigh_le false = omega arith

-- those below a bit, and those from it on
pub unset-split : (k n m : ℕ) → k ≤ n → unset n m ≡ unset k m + unset (n - k) (bits_from k m)
unset-split k n m within = let whole : n ≡ k + (n - k) = omega (arith, within) in ap (λ j. unset j m) whole ∙ unset-add (n - k) k m

pub weighs : (b : Bool) → 0 < weigh b → b ≡ false
weighs true some = absurd (omega arith)
weighs false some = refl
