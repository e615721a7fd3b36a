-- The last number that passes.
use Rattle.std.proofs.Common.{◌≡◌, ℕ, zero, suc, ◌+◌, ◌<◌, ◌≤◌, Bool, true, false, cond, inl, inr, ap, sym, subst, ◌∙◌, arith}
use Rattle.std.proofs.lemmas.Bool.{cases_lt, both_ways}
use Rattle.cell_grid.specs.Windows.{last_below}
use Rattle.bg_types.proofs.Interface.{two_cases}

module _ (passes : ℕ → Bool) where
  last_below-here : (n : ℕ) → passes n ≡ true → last_below passes (suc n) ≡ n
  last_below-here n h = ap (λ b. cond b n (last_below passes n)) h

  last_below-before : (n : ℕ) → passes n ≡ false → last_below passes (suc n) ≡ last_below passes n
  last_below-before n h = ap (λ b. cond b n (last_below passes n)) h

  -- it is k where k passes and no later one does
  pub last_below-is : (n k : ℕ) → k < n → passes k ≡ true → ((j : ℕ) → k < j → j < n → passes j ≡ false) → last_below passes n ≡ k
  last_below-is zero k low here later = absurd (omega arith)
  last_below-is (suc n) k low here later =
      elim (cases_lt k n) [
        | inl below ↦
            last_below-before n (later n below (omega arith)) ∙ last_below-is n k below here (λ j above within. later j above (omega arith))
        | inr above ↦ let same : n ≡ k = omega arith in last_below-here n (subst (λ m. passes m ≡ true) (sym same) here) ∙ same
      ]

  -- no later one passes
  pub last_below-later : (n j : ℕ) → last_below passes n < j → j < n → passes j ≡ false
  last_below-later zero j above within = absurd (omega arith)
  last_below-later (suc n) j above within =
      two_cases (passes n)
      (λ h. absurd (omega (arith, last_below-here n h)))
      (λ h. elim (cases_lt j n) [
        | inl below ↦ last_below-later n j (subst (λ m. m < j) (last_below-before n h) above) below
        | inr least ↦ let same : n ≡ j = omega arith in subst (λ m. passes m ≡ false) same h
      ])

  -- it passes where number 0 does
  pub last_below-passes : (n : ℕ) → passes 0 ≡ true → passes (last_below passes n) ≡ true
  last_below-passes zero h = h
  last_below-passes (suc n) h =
      two_cases (passes n)
      (λ here. subst (λ m. passes m ≡ true) (sym (last_below-here n here)) here)
      (λ other. subst (λ m. passes m ≡ true) (sym (last_below-before n other)) (last_below-passes n h))

  -- it is below n, where n isn't 0
  pub last_below-within : (n : ℕ) → 0 < n → last_below passes n < n
  last_below-within zero some = absurd (omega arith)
  last_below-within (suc n) some =
      two_cases (passes n)
      (λ here. omega (arith, last_below-here n here))
      (λ other. omega (arith, last_below-before n other, at_most n))
    where
      at_most : (m : ℕ) → last_below passes m ≤ m
      at_most zero = omega arith
      at_most (suc m) =
          two_cases (passes m)
          (λ here. omega (arith, last_below-here m here))
          (λ other. omega (arith, last_below-before m other, at_most m))

  -- numbers from `a` on that don't pass change nothing
  pub last_below-past : (a n : ℕ) → a ≤ n → ((k : ℕ) → a ≤ k → k < n → passes k ≡ false) → last_below passes n ≡ last_below passes a
  last_below-past a zero le past = let e : a ≡ 0 = omega arith in sym (ap (last_below passes) e)
  last_below-past a (suc n) le past =
      elim (cases_lt n a) [
        | inl whole ↦ let e : a ≡ suc n = omega arith in sym (ap (last_below passes) e)
        | inr less ↦ last_below-before n (past n less (omega arith)) ∙ last_below-past a n less (λ k from to. past k from (omega arith))
      ]

-- numbers from `a` on, the first of which passes
pub last_below-behind : (passes later : ℕ → Bool) (a n : ℕ) → ((k : ℕ) → k < n → passes (a + k) ≡ later k) → 0 < n → later 0 ≡ true → last_below passes (a + n) ≡ a + last_below later n
last_below-behind passes later a zero same some first = absurd (omega arith)
last_below-behind passes later a (suc n) same some first =
    let next : a + suc n ≡ suc (a + n) = omega arith in
    let here = same n (omega arith) in
    ap (last_below passes) next
    ∙ two_cases (later n)
    (λ t. last_below-here passes (a + n) (here ∙ t) ∙ sym (ap (λ m. a + m) (last_below-here later n t)))
    (λ f.
    last_below-before passes (a + n) (here ∙ f)
    ∙ elim (cases_lt 0 n) [
      | inl more ↦ last_below-behind passes later a n (λ k within. same k (omega arith)) more first
      | inr none ↦ let e : n ≡ 0 = omega arith in absurd (both_ways (later 0) (ap later (sym e) ∙ f) first)
    ]
    ∙ sym (ap (λ m. a + m) (last_below-before later n f)))
