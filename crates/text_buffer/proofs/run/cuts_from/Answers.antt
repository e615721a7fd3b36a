-- One change more is a cut.
use Rattle.std.proofs.Common.{◌≡◌, ◌++◌, [], ◌∷◌, length, sym, ap, ap₂, ◌∙◌, arith}
use Rattle.std.proofs.lemmas.List.{take_more, take_all, replicate_more}
use Rattle.bg_types.specs.declared.change.Change.TheVariants.{Cut}
use Rattle.text_buffer.specs.Edits.{cuts_at}
use Rattle.text_buffer.proofs.run.cuts_from.Goals as goal

pub loop-count-preserved : goal.loop-count-preserved
loop-count-preserved c =
    let i = c.loop-count.count in
    take_more c.args.changes.now i _ (omega (arith, c.loop-count-test.true, c.loop-count.auto.count-end))
    ∙ ap₂ (λ t x. t ++ x ∷ []) c.loop-count.invariant (c.in-Cut.is ∙ ap Cut c.if-at-place.true) ∙ replicate_more i (Cut c.args.place)

pub returns-clause-cuts : goal.returns-clause-cuts
returns-clause-cuts c =
    let changes = c.args.changes.now in
    let i = c.loop-count.count in
    let all : i ≡ length changes = omega (arith, c.loop-count-test.false, c.loop-count.auto.count-end) in
    take_all (length changes) changes (omega arith) ∙ sym (take_all i changes (omega (arith, all))) ∙ c.loop-count.invariant ∙ ap (cuts_at c.args.place) all
