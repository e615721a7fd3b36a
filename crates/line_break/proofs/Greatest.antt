-- The greatest number that passes.
use Rattle.std.proofs.Common.{◌≡◌, ℕ, zero, suc, ◌<◌, ◌≤◌, Bool, true, false, Option, Some, None, cond, unwrap_or, inl, inr, refl, ap, sym, subst, ◌∙◌, arith}
use Rattle.std.proofs.lemmas.Bool.Decides.{eqb_tells}
use Rattle.line_break.specs.Lines.{greatest}
use Rattle.bg_types.proofs.Interface.{two_cases}

module _ (passes : ℕ → Bool) where
  greatest-here : (n : ℕ) → passes (suc n) ≡ true → greatest passes (suc n) ≡ Some (suc n)
  unfolding greatest
  greatest-here n h = ap (λ b. cond b (Some (suc n)) (greatest passes n)) h

  greatest-below : (n : ℕ) → passes (suc n) ≡ false → greatest passes (suc n) ≡ greatest passes n
  unfolding greatest
  greatest-below n h = ap (λ b. cond b (Some (suc n)) (greatest passes n)) h

  pub greatest-none : (n : ℕ) → ((j : ℕ) → 1 ≤ j → j ≤ n → passes j ≡ false) → greatest passes n ≡ None
  unfolding greatest
  greatest-none zero h = refl
  greatest-none (suc n) h =
      greatest-below n (h (suc n) (omega arith) (omega arith)) ∙ greatest-none n (λ j low high. h j low (omega arith))

  pub greatest-is : (n e : ℕ) → 1 ≤ e → e ≤ n → passes e ≡ true → ((j : ℕ) → e < j → j ≤ n → passes j ≡ false) → greatest passes n ≡ Some e
  greatest-is zero e low high here h = absurd (omega arith)
  greatest-is (suc n) e low high here h =
      elim (eqb_tells e (suc n)) [
        | inl same ↦ greatest-here n (ap passes (sym same.1) ∙ here) ∙ ap (λ k. Some k) (sym same.1)
        | inr other ↦
            let ne = other.1 in
            let le : e ≤ n = omega arith in
            greatest-below n (h (suc n) (omega arith) (omega arith)) ∙ greatest-is n e low le here (λ j above upto. h j above (omega arith))
      ]

  -- it, or d if none passes, lies within
  pub greatest-within : (n d bound : ℕ) → 1 ≤ d → d ≤ bound → n ≤ bound
      → (1 ≤ unwrap_or (greatest passes n) d) × (unwrap_or (greatest passes n) d ≤ bound)
  unfolding greatest
  greatest-within zero d bound low high le = (low, high)
  greatest-within (suc n) d bound low high le =
      two_cases (passes (suc n))
      (λ h. subst (λ (o : Option ℕ). (1 ≤ unwrap_or o d) × (unwrap_or o d ≤ bound)) (sym (greatest-here n h)) (omega arith, le))
      (λ h. subst (λ (o : Option ℕ). (1 ≤ unwrap_or o d) × (unwrap_or o d ≤ bound)) (sym (greatest-below n h)) (greatest-within n d bound low high (omega arith)))
