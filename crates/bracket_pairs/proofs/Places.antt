-- The places that pass a test.
use Rattle.std.proofs.Common.{ℕ, zero, suc, ◌≡◌, ◌<◌, ◌≤◌, refl, inl, inr, Bool, true, false, Some, arith}
use Rattle.std.specs.Prelude.{filter}
use Rattle.std.proofs.lemmas.Bool.{cases_Bool, cases_lt}
use Rattle.bracket_pairs.specs.Pairs.{places_back, greatest_before}

-- tests that agree before n
pub filter-agree : (p q : ℕ → Bool) (n : ℕ) → ((i : ℕ) → i < n → p i ≡ q i) → filter p (places_back n) ≡ filter q (places_back n)
filter-agree p q zero same = refl
filter-agree p q (suc n) same =
    let rest : filter p (places_back n) ≡ filter q (places_back n) = filter-agree p q n (λ i h. same i (omega arith)) in
    rw (same n (omega arith)) (rw rest refl)

-- nothing passes from x on
pub filter-cut : (p q : ℕ → Bool) (x n : ℕ) → x ≤ n → ((i : ℕ) → x ≤ i → i < n → p i ≡ false) → ((i : ℕ) → i < x → p i ≡ q i) →
    filter p (places_back n) ≡ filter q (places_back x)
filter-cut p q x zero le none same = let e : x ≡ zero = omega arith in rw e refl
filter-cut p q x (suc n) le none same =
    elim (cases_lt n x) [
      | inr from ↦ rw (none n from (omega arith)) (filter-cut p q x n from (λ i a b. none i a (omega arith)) same)
      | inl above ↦ let e : x ≡ suc n = omega arith in rw e (filter-agree p q (suc n) (λ i h. same i (omega arith)))
    ]

pub greatest-before : (p : ℕ → Bool) (n x : ℕ) → greatest_before p n ≡ Some x → (x < n) × (p x ≡ true)
greatest-before p zero x e = absurd (cc)
greatest-before p (suc n) x e =
    elim (cases_Bool (p n)) [
      | inl passes ↦ let at : Some n ≡ Some x = rw passes at e in let same : n ≡ x = cc in (omega arith, rw (← same) passes)
      | inr fails ↦ let at : greatest_before p n ≡ Some x = rw fails at e in let r = greatest-before p n x at in (omega (arith, r.0), r.1)
    ]
