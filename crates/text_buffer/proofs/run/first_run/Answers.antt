-- The first change, and those that go on from it.
use Rattle.std.proofs.Common.{◌++◌, [], ◌∷◌, ap, ◌∙◌, arith}
use Rattle.paragraphs.specs.Text.{code_points}
use Rattle.bg_types.specs.declared.change.Change.TheVariants.{Put}
use Rattle.text_buffer.proofs.Chars.{points-none}
use Rattle.text_buffer.proofs.Runs.{place-first, run-put, run-cut, whole-put, whole-cut}
use Rattle.text_buffer.proofs.run.first_run.Goals as goal

pub overflow_add-place : goal.overflow_add-place
overflow_add-place c = omega (arith, place-first c.args.changes.now _ (Put c.in-Put.place c.in-Put.ch) c.requires.some c.in-Put.is c.requires.low)

pub returns-in_ok-more-in-Put-clause-run : goal.returns-in_ok-more-in-Put-clause-run
returns-in_ok-more-in-Put-clause-run c =
    let ch = c.in-Put.ch in
    let one = c.in_ok-add-in-Put.ensures ∙ ap (λ t. code_points t ++ ch ∷ []) c.new-text.ensures.bytes ∙ ap (λ t. t ++ ch ∷ []) points-none in
    run-put c.args.changes.now _ c.in-Put.place ch c.in_ok-more-in-Put.more _ _ c.requires.some c.in-Put.is one c.in_ok-more-in-Put.ensures.puts

pub returns-in_ok-puts-in-Cut-clause-run : goal.returns-in_ok-puts-in-Cut-clause-run
returns-in_ok-puts-in-Cut-clause-run c =
    let none = ap code_points c.new-text.ensures.bytes ∙ points-none in
    run-cut c.args.changes.now _ c.in-Cut.place c.cuts_from-cuts.result c.in_ok-puts-in-Cut.puts _ _ c.requires.some c.in-Cut.is none c.cuts_from-cuts.ensures.cuts c.in_ok-puts-in-Cut.ensures.puts

pub returns-in_ok-more-in-Put-clause-whole : goal.returns-in_ok-more-in-Put-clause-whole
returns-in_ok-more-in-Put-clause-whole c =
    let ch = c.in-Put.ch in
    let one = c.in_ok-add-in-Put.ensures ∙ ap (λ t. code_points t ++ ch ∷ []) c.new-text.ensures.bytes ∙ ap (λ t. t ++ ch ∷ []) points-none in
    let more = c.in_ok-more-in-Put.ensures in
    whole-put c.args.changes.now c.in-Put.place ch c.in_ok-more-in-Put.more _ _ one more.puts more.within more.whole

pub returns-in_ok-puts-in-Cut-clause-whole : goal.returns-in_ok-puts-in-Cut-clause-whole
returns-in_ok-puts-in-Cut-clause-whole c =
    let none = ap code_points c.new-text.ensures.bytes ∙ points-none in
    let puts = c.in_ok-puts-in-Cut.ensures in
    whole-cut c.args.changes.now c.in-Cut.place c.cuts_from-cuts.result c.in_ok-puts-in-Cut.puts _ _ none puts.puts puts.within puts.whole c.cuts_from-cuts.ensures.whole
