-- The first strong one, or none.
use Rattle.std.proofs.Common.{◌+◌, ◌==◌, ◌∙◌, ap, sym, drop, Some, None, arith}
use Rattle.std.proofs.lemmas.List.{drop_more, drop_all}
use Rattle.bg_types.specs.declared.class.Bidi.TheVariants.{L}
use Rattle.bidi_explicit.specs.Controls.{odd_before}
use Rattle.bidi_explicit.proofs.controls.odd_before.Goals as goal

pub returns-in-Some : goal.returns-in-Some
returns-in-Some c =
    let row = c.args.row.now in
    let i = c.loop-class.class-index in
    let odd = c.args.odd in
    ap (λ found. elim found [ Some level ↦ level == 1 | None ↦ odd_before (drop (i + 1) row) odd ]) c.in-Some.ensures
    ∙ sym (ap (λ cs. odd_before cs odd) (drop_more row i L c.loop-class-test.true))
    ∙ sym c.loop-class.invariant

pub returns : goal.returns
returns c = sym (c.loop-class.invariant ∙ ap (λ cs. odd_before cs c.args.odd) (drop_all c.loop-class.class-index c.args.row.now (omega arith)))
