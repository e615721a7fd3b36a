-- The goals of `falling_with` that are answered by hand.
use Rattle.std.proofs.Common.{◌≡◌, ◌<◌, ◌≤◌, ◌+◌, ◌-◌, ◌∙◌, true, length, get_or, sym, arith}
use Rattle.std.specs.Ordering.{is_lt}
use Rattle.std.proofs.lemmas.List.{get_or_default}
use Rattle.bg_types.specs.Identifier.{id_cmp}
use Rattle.rga_tree.specs.declared.element.Element.{Element}
use Rattle.rga_sequence.proofs.Falling.{falls-insert}
use Rattle.rga_sequence.proofs.block.falling_with.Goals.{else-at-row-via-then-at-row+else-not-is_below, else-at-row-via-else-at-row, else-falling-at-via-then-falling-at+else-not-is_below-2, else-falling-at-via-else-falling-at}
use Rattle.rga_sequence.proofs.block.falling_with.Goals as goal

pub returns-then-not-is_below-2-clause-falls : goal.returns-then-not-is_below-2-clause-falls
returns-then-not-is_below-2-clause-falls c = λ n is.
    let es = c.args.row.now in
    let at = c.args.at in
    let after : (d : Element) → at ≤ at → at < length es → is_lt (id_cmp (get_or es at d).id n.id) ≡ true =
    λ d _ less. elim c.else-at-row.branch [
      | else-at-row-via-then-at-row+else-not-is_below w ↦
          (λ i. is_lt (id_cmp (get_or_default es at d w.index-row-at.result less i).id (is i))) ∙ sym w.is_below.ensures ∙ w.if-not-is_below.false
      | else-at-row-via-else-at-row w ↦ absurd (omega (arith, w.if-at-row.false, less))
    ] in
    falls-insert es at c.args.falling at n c.requires.within c.requires.falls c.if-at-falling.false (λ less. absurd (omega (arith, less))) (λ d less. absurd (omega (arith, less))) after

pub returns-clause-falls : goal.returns-clause-falls
returns-clause-falls c = λ n is.
    let es = c.args.row.now in
    let at = c.args.at in
    let falling = c.args.falling in
    let before : (d : Element) → falling < at → is_lt (id_cmp n.id (get_or es (at - 1) d).id) ≡ true =
    λ d less. elim c.else-falling-at.branch [
      | else-falling-at-via-then-falling-at+else-not-is_below-2 w ↦
          (λ i. is_lt (id_cmp (is i) (get_or_default es (at - 1) d w.index-row-at-then-falling-at.result (omega (arith, less, c.requires.within)) i).id)) ∙ sym w.is_below-then-falling-at.ensures ∙ w.if-not-is_below-2.false
      | else-falling-at-via-else-falling-at w ↦ absurd (omega (arith, w.if-falling-at.false, less))
    ] in
    let after : (d : Element) → falling ≤ at → at < length es → is_lt (id_cmp (get_or es at d).id n.id) ≡ true =
    λ d _ less. elim c.else-at-row.branch [
      | else-at-row-via-then-at-row+else-not-is_below w ↦
          (λ i. is_lt (id_cmp (get_or_default es at d w.index-row-at.result less i).id (is i))) ∙ sym w.is_below.ensures ∙ w.if-not-is_below.false
      | else-at-row-via-else-at-row w ↦ absurd (omega (arith, w.if-at-row.false, less))
    ] in
    falls-insert es at falling falling n c.requires.within c.requires.falls (omega arith) (λ less. absurd (omega (arith, less, c.if-at-falling.false))) before after

pub overflow_add-result : goal.overflow_add-result
overflow_add-result c = omega arith

pub overflow_add-result-then-not-is_below : goal.overflow_add-result-then-not-is_below
overflow_add-result-then-not-is_below c = omega arith

pub overflow_sub-at : goal.overflow_sub-at
overflow_sub-at c = omega arith

pub bounds-row-at : goal.bounds-row-at
bounds-row-at c = omega arith

pub bounds-row-at-then-falling-at : goal.bounds-row-at-then-falling-at
bounds-row-at-then-falling-at c = omega arith

pub bounds-row-at-then-falling-at-2 : goal.bounds-row-at-then-falling-at-2
bounds-row-at-then-falling-at-2 c = omega arith

pub returns-then-at-falling-clause-falls : goal.returns-then-at-falling-clause-falls
returns-then-at-falling-clause-falls c = λ n is.
    let falling = c.args.falling in
    let low : c.args.at < falling = c.if-at-falling.true in
    falls-insert c.args.row.now c.args.at falling (falling + 1) n c.requires.within c.requires.falls (omega arith) (λ _. omega arith) (λ d less. absurd (omega (arith, low, less))) (λ d le _. absurd (omega (arith, low, le)))

pub returns-then-not-is_below-clause-falls : goal.returns-then-not-is_below-clause-falls
returns-then-not-is_below-clause-falls c = λ n is.
    let at = c.args.at in
    let low : c.args.falling ≤ at = c.if-at-falling.false in
    falls-insert c.args.row.now at c.args.falling (at + 1) n c.requires.within c.requires.falls (omega (arith, low)) (λ _. omega (arith, low)) (λ d less. absurd (omega (arith, less))) (λ d le _. absurd (omega (arith, le)))
