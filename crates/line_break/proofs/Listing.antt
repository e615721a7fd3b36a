-- The opportunities behind a boundary, one by one.
use Rattle.std.proofs.Common.{◌≡◌, ℕ, zero, suc, ◌+◌, ◌-◌, ◌<◌, ◌≤◌, true, false, cond, ◌||◌, ◌==◌, List, [], ◌∷◌, map, length, refl, sym, ap, subst, ◌∙◌, inl, inr, arith}
use Rattle.std.proofs.lemmas.Bool.{eq-eqb}
use Rattle.std.proofs.lemmas.Bool.Decides.{eqb_tells}
use Rattle.std.proofs.Math.Bool.{or-true}
use Rattle.std.specs.List.{filter, range_with_len}
use Rattle.line_break.specs.declared.cluster.Cluster.{Cluster}
use Rattle.line_break.specs.declared.opportunity.Opportunity.{Opportunity}
use Rattle.line_break.specs.declared.status.Break.{Break}
use Rattle.line_break.specs.declared.status.Break.TheVariants.{Must, May, No}
use Rattle.line_break.specs.Lines.{is_must, is_break, status_at, is_opportunity}
use Rattle.line_break.specs.Opportunities.{opportunity_at, opportunities_of, opportunities_behind}
use Rattle.line_break.specs.Open.{IsBoundary}
use Rattle.bg_types.proofs.Interface.{two_cases}

not-break : (status : Break) → is_break status ≡ false → status ≡ No
not-break Must h = absurd (cc)
not-break May h = absurd (cc)
not-break No h = refl

-- the opportunities among n boundaries from this one on
abbrev listed : List Cluster → ℕ → ℕ → List Opportunity
listed cl from n = map (opportunity_at cl) (filter (is_opportunity cl) (range_with_len from n))

-- the first of them
record IsFirst (cl : List Cluster) (from n : ℕ) (x : Opportunity) (later : List Opportunity) : Type 0 where
  at : ℕ
  low : from ≤ at
  high : at < from + n
  is : x ≡ opportunity_at cl at
  here : is_opportunity cl at ≡ true
  none : (i : ℕ) → from ≤ i → i < at → is_opportunity cl i ≡ false
  left : later ≡ listed cl (at + 1) (from + n - (at + 1))

-- the next opportunity behind a boundary, and those behind it
pub record IsNext (cl : List Cluster) (start : ℕ) (x : Opportunity) (later : List Opportunity) : Type 0 where
  pub boundary : IsBoundary cl x.boundary
  pub behind : start < x.boundary.clusters
  pub here : is_opportunity cl x.boundary.clusters ≡ true
  pub none : (i : ℕ) → start < i → i < x.boundary.clusters → is_opportunity cl i ≡ false
  pub must : x.must ≡ is_must (status_at cl x.boundary.clusters)
  pub left : later ≡ opportunities_behind cl x.boundary.clusters

module _ (cl : List Cluster) where
  listed-here : (from n : ℕ) → is_opportunity cl from ≡ true → listed cl from (suc n) ≡ opportunity_at cl from ∷ listed cl (from + 1) n
  listed-here from n h =
      ap (λ b. map (opportunity_at cl) (cond b (from ∷ filter (is_opportunity cl) (range_with_len (from + 1) n)) (filter (is_opportunity cl) (range_with_len (from + 1) n)))) h

  listed-past : (from n : ℕ) → is_opportunity cl from ≡ false → listed cl from (suc n) ≡ listed cl (from + 1) n
  listed-past from n h =
      ap (λ b. map (opportunity_at cl) (cond b (from ∷ filter (is_opportunity cl) (range_with_len (from + 1) n)) (filter (is_opportunity cl) (range_with_len (from + 1) n)))) h

  first-here : (from n : ℕ) (x : Opportunity) (later : List Opportunity) → is_opportunity cl from ≡ true → opportunity_at cl from ∷ listed cl (from + 1) n ≡ x ∷ later
      → IsFirst cl from (suc n) x later
  first-here from n x later h e = record {
    at = from;
    low = omega arith;
    high = omega arith;
    is = cc e;
    here = h;
    none = λ i a b. absurd (omega arith);
    left =
        let rest : later ≡ listed cl (from + 1) n = cc e in
        let count : n ≡ from + suc n - (from + 1) = omega arith in
        rest ∙ ap (listed cl (from + 1)) count;
  }

  first-past : (from n : ℕ) (x : Opportunity) (later : List Opportunity) → is_opportunity cl from ≡ false → IsFirst cl (from + 1) n x later → IsFirst cl from (suc n) x later
  first-past from n x later h f = record {
    at = f.at;
    low = let low = f.low in omega arith;
    high = let high = f.high in omega arith;
    is = f.is;
    here = f.here;
    none = λ i a b. elim (eqb_tells i from) [
      | inl same ↦ ap (is_opportunity cl) same.1 ∙ h
      | inr other ↦ f.none i (let ne = other.1 in omega arith) b
    ];
    left =
        let count : from + 1 + n - (f.at + 1) ≡ from + suc n - (f.at + 1) = omega arith in
        f.left ∙ ap (listed cl (f.at + 1)) count;
  }

  listed-first : (n from : ℕ) (x : Opportunity) (later : List Opportunity) → listed cl from n ≡ x ∷ later → IsFirst cl from n x later
  listed-first zero from x later e = absurd (cc e)
  listed-first (suc n) from x later e =
      two_cases (is_opportunity cl from)
      (λ h. first-here from n x later h (sym (listed-here from n h) ∙ e))
      (λ h. first-past from n x later h (listed-first n (from + 1) x later (sym (listed-past from n h) ∙ e)))

  listed-none : (n from : ℕ) → listed cl from n ≡ [] → (i : ℕ) → from ≤ i → i < from + n → is_opportunity cl i ≡ false
  listed-none zero from e i a b = absurd (omega arith)
  listed-none (suc n) from e i a b =
      two_cases (is_opportunity cl from)
      (λ h. absurd (let some = sym (listed-here from n h) ∙ e in cc some))
      (λ h. elim (eqb_tells i from) [
        | inl same ↦ ap (is_opportunity cl) same.1 ∙ h
        | inr other ↦ listed-none n (from + 1) (sym (listed-past from n h) ∙ e) i (let ne = other.1 in omega arith) (omega arith)
      ])

  listed-skip : (k n from : ℕ) → ((i : ℕ) → from ≤ i → i < from + k → is_opportunity cl i ≡ false) → listed cl from (k + n) ≡ listed cl (from + k) n
  listed-skip zero n from none = let count : zero + n ≡ n = omega arith in let first : from ≡ from + zero = omega arith in ap (listed cl from) count ∙ ap (λ a. listed cl a n) first
  listed-skip (suc k) n from none =
      let count : suc k + n ≡ suc (k + n) = omega arith in
      let first : from + 1 + k ≡ from + suc k = omega arith in
      ap (listed cl from) count ∙ listed-past from (k + n) (none from (omega arith) (omega arith))
      ∙ listed-skip k n (from + 1) (λ i a b. none i (omega arith) (omega arith)) ∙ ap (λ a. listed cl a n) first

  -- no line may end there
  pub no-opportunity : (i : ℕ) → is_opportunity cl i ≡ false → status_at cl i ≡ No
  unfolding is_opportunity
  no-opportunity i h =
      not-break (status_at cl i)
      (two_cases (is_break (status_at cl i))
      (λ yes. absurd (let true_too = sym (ap (λ b. b || i == length cl) yes) ∙ h in cc true_too))
      (λ no. no))

  -- a line may end there, before the paragraph's end
  pub opportunity-breaks : (i : ℕ) → is_opportunity cl i ≡ true → i < length cl → is_break (status_at cl i) ≡ true
  unfolding is_opportunity
  opportunity-breaks i h inside =
      two_cases (is_break (status_at cl i))
      (λ yes. yes)
      (λ no. elim (eqb_tells i (length cl)) [
        | inl same ↦ absurd (let k = same.1 in omega arith)
        | inr other ↦ absurd (let false_too = sym (ap (λ b. b || i == length cl) no ∙ other.0) ∙ h in cc false_too)
      ])

  -- the paragraph's end is one
  pub end-opportunity : is_opportunity cl (length cl) ≡ true
  unfolding is_opportunity
  end-opportunity =
      ap (λ b. is_break (status_at cl (length cl)) || b) (eq-eqb (length cl) (length cl) refl) ∙ or-true (is_break (status_at cl (length cl)))

  next-of : (start : ℕ) (x : Opportunity) (later : List Opportunity) → start ≤ length cl → (f : IsFirst cl (start + 1) (length cl - start) x later) → IsNext cl start (opportunity_at cl f.at) later
  unfolding opportunities_behind
  next-of start x later within f =
      let low = f.low in
      let high = f.high in
      record {
        boundary = record { within = omega arith; columns = refl; solid = refl };
        behind = omega arith;
        here = f.here;
        none = λ i a b. f.none i (omega arith) b;
        must = refl;
        left =
            let count : start + 1 + (length cl - start) - (f.at + 1) ≡ length cl - f.at = omega arith in
            f.left ∙ ap (listed cl (f.at + 1)) count;
      }

  pub behind-next : (start : ℕ) (x : Opportunity) (later : List Opportunity) → start ≤ length cl → opportunities_behind cl start ≡ x ∷ later → IsNext cl start x later
  unfolding opportunities_behind
  behind-next start x later within e =
      let f = listed-first (length cl - start) (start + 1) x later e in
      subst (λ (y : Opportunity). IsNext cl start y later) (sym f.is) (next-of start x later within f)

  -- none is behind the paragraph's end alone
  pub behind-none : (start : ℕ) → start ≤ length cl → opportunities_behind cl start ≡ [] → start ≡ length cl
  unfolding opportunities_behind
  behind-none start within e =
      elim (eqb_tells start (length cl)) [
        | inl same ↦ same.1
        | inr other ↦ absurd (
            let ne = other.1 in
            let none = listed-none (length cl - start) (start + 1) e (length cl) (omega arith) (omega arith) in
            let both = sym end-opportunity ∙ none in cc both)
      ]

  -- those behind a boundary up to which there is none
  pub behind-skip : (start end : ℕ) → start ≤ end → end ≤ length cl → ((i : ℕ) → start < i → i ≤ end → is_opportunity cl i ≡ false)
      → opportunities_behind cl start ≡ opportunities_behind cl end
  unfolding opportunities_behind
  behind-skip start end low high none =
      let count : length cl - start ≡ (end - start) + (length cl - end) = omega arith in
      let first : start + 1 + (end - start) ≡ end + 1 = omega arith in
      ap (listed cl (start + 1)) count
      ∙ listed-skip (end - start) (length cl - end) (start + 1) (λ i a b. none i (omega arith) (omega arith))
      ∙ ap (λ a. listed cl a (length cl - end)) first

  -- all are behind the paragraph's start
  pub behind-start : opportunities_of cl ≡ opportunities_behind cl 0
  unfolding opportunities_of opportunities_behind
  behind-start = let count : length cl ≡ length cl - 0 = omega arith in ap (listed cl 1) count
