-- The goals of `next` that are answered by hand.
use Rattle.std.proofs.Common.{ap, ◌∙◌, length, arith}
use Rattle.ucd_files.specs.Line.{lines_left}
use Rattle.ucd_files.proofs.LinesOf.{lines_of-last, lines_of-more}
use Rattle.ucd_files.proofs.lines.LinesIterator.next.Goals as goal

pub returns-then-place-text-clause-steps : goal.returns-then-place-text-clause-steps
returns-then-place-text-clause-steps c =
    ap lines_left c.in_ok-text.was ∙ lines_of-last c.in_ok-text.text.now (omega arith)

pub returns-clause-steps : goal.returns-clause-steps
returns-clause-steps c =
    ap lines_left c.in_ok-text.was ∙ lines_of-more c.in_ok-text.text.now c.place_of-place.result c.place_of-place.ensures.place (omega arith)

pub returns-then-place-text-clause-goes : goal.returns-then-place-text-clause-goes
returns-then-place-text-clause-goes c =
    let step = ap length (ap lines_left c.in_ok-text.was ∙ lines_of-last c.in_ok-text.text.now (omega arith)) in
    record { on = λ _. (tt, tt, omega (arith, step)); keeps = tt; rests = λ _. tt }

pub returns-clause-goes : goal.returns-clause-goes
returns-clause-goes c =
    let step = ap length (ap lines_left c.in_ok-text.was ∙ lines_of-more c.in_ok-text.text.now c.place_of-place.result c.place_of-place.ensures.place (omega arith)) in
    record { on = λ _. (tt, tt, omega (arith, step)); keeps = tt; rests = λ _. tt }
