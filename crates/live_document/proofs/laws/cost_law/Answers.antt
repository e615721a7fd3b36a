-- What was shown is kept over the edits, but for what they made anew.
use Rattle.std.proofs.Common.{ap, arith}
use Rattle.live_document.specs.Cost.{unmarked, carried, stretch_marks, marks}
use Rattle.live_document.proofs.Cost.{cost-of, count-marks, count-points, marks-in_turn}
use Rattle.live_document.proofs.laws.cost_law.Goals as goal

pub returns : goal.returns
returns c = λ before shown changed after steps place above below later_place later_above later_below one touched two.
    let n = count-marks shown.paragraphs in
    let m = count-points shown.paragraphs in
    let there = one.bottom.there in
    let order = one.order in
    let h = cost-of (marks shown.paragraphs) one.first one.end two.first two.end steps (omega arith) (omega arith) one.kept in
    let same = ap (λ ms. unmarked ms two.first two.end) (marks-in_turn shown.paragraphs changed.paragraphs steps touched) in
    let size = ap (λ count. unmarked (carried steps (stretch_marks one.first one.end count)) two.first two.end) n in
    let laid = two.laid in
    omega arith
