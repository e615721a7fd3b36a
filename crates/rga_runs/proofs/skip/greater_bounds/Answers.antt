-- The goals of `greater_bounds` that are answered by hand.
use Rattle.std.proofs.Common.{◌≡◌, ◌+◌, ◌-◌, ◌<◌, ◌≤◌, ◌∙◌, ℕ, List, Bool, true, false, length, drop, get_or, refl, sym, ap, length-drop, arith}
use Rattle.std.specs.Prelude.{nat_lt}
use Rattle.std.specs.List.{prefix_len}
use Rattle.std.specs.Ordering.{is_lt}
use Rattle.std.proofs.lemmas.Bool.{ltb-true, ltb-false}
use Rattle.std.proofs.lemmas.List.{get_or-drop, get_or_default}
use Rattle.std.proofs.lemmas.List.Sums.{prefix_len_is}
use Rattle.bg_types.specs.Identifier.{Identifier, id_cmp}
use Rattle.rga_runs.proofs.skip.greater_bounds.Goals as goal

-- where those from g up to k are greater, and the one there isn't, if there is one
up_to : (id : Identifier) (ms : List Identifier) (g k : ℕ) → g ≤ k → k ≤ length ms → ((j : ℕ) (d : Identifier) → g ≤ j → j < k → is_lt (id_cmp id (get_or ms j d)) ≡ true)
    → (k < length ms → is_lt (id_cmp id (get_or ms k id)) ≡ false) → k - g ≡ prefix_len (λ m. is_lt (id_cmp id m)) (drop g ms)
up_to id ms g k le within greater stops =
    let t : Identifier → Bool = λ m. is_lt (id_cmp id m) in
    let there : g + (k - g) ≡ k = omega (arith, le) in
    sym (prefix_len_is t (drop g ms) (k - g) id (omega (arith, length-drop g ms, le, within))
    (λ i less. ap t (get_or-drop g ms i id) ∙ greater (g + i) id (omega arith) (omega (arith, less)))
    (λ more. ap t (get_or-drop g ms (k - g) id ∙ ap (λ j. get_or ms j id) there) ∙ stops (omega (arith, more, length-drop g ms, le))))

pub loop-k-preserved : goal.loop-k-preserved
loop-k-preserved c = record {
  from = omega (arith, c.loop-k.invariant.from);
  greater = λ j d low high there. by_place j d low high there (nat_lt j c.loop-k.k) refl;
} where
  ms : List Identifier
  ms = c.args.bounds.now

  by_place : (j : ℕ) (d : Identifier) → c.args.g ≤ j → j < c.loop-k.k + 1 → j < length ms → (b : Bool) → nat_lt j c.loop-k.k ≡ b → is_lt (id_cmp c.args.id (get_or ms j d)) ≡ true
  by_place j d low high there true is = c.loop-k.invariant.greater j d low (ltb-true _ _ is) there
  by_place j d low high there false is =
      let here : c.loop-k.k ≡ j = omega (arith, high, ltb-false _ _ is) in
      let m = c.index-bounds-k.result in
      let read : get_or ms j d ≡ m = ap (λ i. get_or ms i d) (sym here) ∙ get_or_default ms c.loop-k.k d m (omega (arith, there, here)) ∙ sym c.index-bounds-k.is in
      ap (λ q. is_lt (id_cmp c.args.id q)) read ∙ sym c.is_below.ensures ∙ c.if-not-is_below.false

pub returns-then-not-is_below-clause-count : goal.returns-then-not-is_below-clause-count
returns-then-not-is_below-clause-count c =
    let ms = c.args.bounds.now in
    let m = c.index-bounds-k.result in
    up_to c.args.id ms c.args.g c.loop-k.k c.loop-k.invariant.from (omega (arith, c.loop-k-test.true)) (λ j d low high. c.loop-k.invariant.greater j d low high (omega (arith, high, c.loop-k-test.true)))
    (λ less. ap (λ q. is_lt (id_cmp c.args.id q)) (get_or_default ms c.loop-k.k c.args.id m less ∙ sym c.index-bounds-k.is) ∙ sym c.is_below.ensures ∙ c.if-not-is_below.true)

pub returns-clause-count : goal.returns-clause-count
returns-clause-count c =
    let ms = c.args.bounds.now in
    let g = c.args.g in
    let t : Identifier → Bool = λ m. is_lt (id_cmp c.args.id m) in
    c.saturating_sub.ensures
    ∙ sym (prefix_len_is t (drop g ms) (length ms - g) c.args.id (omega (arith, length-drop g ms))
    (λ i less. ap t (get_or-drop g ms i c.args.id) ∙ c.loop-k.invariant.greater (g + i) c.args.id (omega arith) (omega (arith, less, c.loop-k-test.false)) (omega (arith, less)))
    (λ more. absurd (omega (arith, more, length-drop g ms))))
