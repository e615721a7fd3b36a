-- Places in a row of which none has a class of some kind.
use Rattle.std.proofs.Common.{ℕ, ◌≡◌, ◌+◌, ◌-◌, ◌<◌, ◌≤◌, ap, sym, subst, ◌∙◌, ⊎_elim, List, [], ◌∷◌, zero, suc, length, get_or, drop, slice_range, Bool, false, length-drop, arith}
use Rattle.std.specs.List.{list_any}
use Rattle.std.proofs.lemmas.Bool.{cases_lt, or_parts}
use Rattle.std.proofs.lemmas.List.{get_or-take, get_or-drop, length-take-le}
use Rattle.bg_types.specs.declared.class.Bidi.{Bidi}
use Rattle.bg_types.specs.declared.class.Bidi.TheVariants.{L}

module _ (p : Bidi → Bool) where
  none-at : (cs : List Bidi) (i : ℕ) → i < length cs → list_any p cs ≡ false → p (get_or cs i L) ≡ false
  none-at [] i lt e = absurd (omega arith)
  none-at (c ∷ cs) zero lt e = (or_parts (p c) (list_any p cs) e).0
  none-at (c ∷ cs) (suc i) lt e = none-at cs i (omega arith) (or_parts (p c) (list_any p cs) e).1

  module _ (cs : List Bidi) where
    abbrev pub ArePassed : (start end : ℕ) → Type 0
    ArePassed start end = (k : ℕ) → start ≤ k → k < end → p (get_or cs k L) ≡ false

    pub passed-on : (first start end : ℕ) → ArePassed first start → ArePassed start end → ArePassed first end
    passed-on first start end before behind k from to = ⊎_elim (λ lt. before k from lt) (λ le. behind k le to) (cases_lt k start)

    pub passed-between : (start end : ℕ) → end ≤ length cs → list_any p (slice_range cs start end) ≡ false → ArePassed start end
    passed-between start end within none k from to =
        let lt : k - start < end - start = omega arith in
        let at : start + (k - start) ≡ k = omega arith in
        let long = length-take-le (end - start) (drop start cs) (omega (arith, length-drop start cs)) in
        ap p (ap (λ i. get_or cs i L) (sym at) ∙ sym (get_or-drop start cs (k - start) L) ∙ sym (get_or-take (end - start) (drop start cs) (k - start) L lt))
        ∙ none-at (slice_range cs start end) (k - start) (omega (arith, long)) none

    pub passed-at : (start : ℕ) → p (get_or cs start L) ≡ false → ArePassed start (start + 1)
    passed-at start here k from to = let at : start ≡ k = omega arith in subst (λ i. p (get_or cs i L) ≡ false) at here

    pub passed-before : (start end : ℕ) → 0 < start → p (get_or cs (start - 1) L) ≡ false → ArePassed start end → ArePassed (start - 1) end
    passed-before start end some here =
        passed-on (start - 1) start end (λ k from to. let at : start - 1 ≡ k = omega arith in subst (λ i. p (get_or cs i L) ≡ false) at here)
