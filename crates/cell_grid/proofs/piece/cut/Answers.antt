-- One piece more.
use Rattle.std.proofs.Common.{◌∷◌, ◌*◌, drop, refl, arith}
use Rattle.std.proofs.lemmas.Nat.{mul-le}
use Rattle.std.proofs.lemmas.List.Elements.{All-head}
use Rattle.cell_grid.specs.Parts.{IsWithin, left_of}
use Rattle.cell_grid.proofs.PieceCuts.{cut-start, cut-begun, level-each, cut-next, cut-passed, cut-spans, cut-levels, cut-columns}
use Rattle.cell_grid.proofs.Steps.{slice-end}
use Rattle.cell_grid.proofs.piece.cut.Goals as goal

pub loop-left-init : goal.loop-left-init
loop-left-init c =
    cut-start (left_of c.args.runs.now c.args.cursor.now) c.args.clusters c.args.levels.now c.args.width c.clear.new.self.items c.clear.ensures.items c.requires.within c.requires.clusters c.requires.levels

pub begin-requires-clause-left : goal.begin-requires-clause-left
begin-requires-clause-left c = let enough = c.loop-left.invariant.enough in omega arith

pub first_piece-behind_it-requires-clause-within : goal.first_piece-behind_it-requires-clause-within
first_piece-behind_it-requires-clause-within c =
    All-head IsWithin c.begin.new.self.first (drop c.begin.new.self.next c.args.runs.now) (c.begin.ensures.within c.loop-left.invariant.within)

pub first_piece-behind_it-requires-clause-levels : goal.first_piece-behind_it-requires-clause-levels
first_piece-behind_it-requires-clause-levels c =
    let line = left_of c.args.runs.now c.args.cursor.now in
    let run = c.begin.new.self.first in
    let later = drop c.begin.new.self.next c.args.runs.now in
    let pieces = c.loop-left.pieces.items in
    let left = c.loop-left.left in
    let ahead = c.loop-left.ahead.now in
    let begun = cut-begun line c.args.clusters c.args.levels.now c.args.width pieces left ahead c.loop-left.room (left_of c.args.runs.now c.loop-left.reader) (run ∷ later)
    c.begin.ensures.same (c.begin.ensures.within c.loop-left.invariant.within) c.loop-left.invariant in
    let least = c.min-most.ensures in
    let long = level-each line c.args.clusters c.args.levels.now c.args.width pieces left ahead c.loop-left.room run later begun c.min-most.result (omega arith) (omega arith) in
    omega arith

pub overflow_mul-ahead : goal.overflow_mul-ahead
overflow_mul-ahead c =
    let run = c.begin.new.self.first in
    let n = c.count-count.ensures.number in
    let m = c.first_piece-behind_it.ensures.within in
    let least = c.min-most.ensures in
    let all = mul-le c.count-count.result run.points run.count run.points (omega arith) (omega arith) in
    let within = All-head IsWithin run (drop c.begin.new.self.next c.args.runs.now) (c.begin.ensures.within c.loop-left.invariant.within) in
    let places = within.places in
    omega arith

pub slice_bounds-ahead-count : goal.slice_bounds-ahead-count
slice_bounds-ahead-count c =
    let line = left_of c.args.runs.now c.args.cursor.now in
    let run = c.begin.new.self.first in
    let later = drop c.begin.new.self.next c.args.runs.now in
    let pieces = c.loop-left.pieces.items in
    let left = c.loop-left.left in
    let ahead = c.loop-left.ahead.now in
    let begun = cut-begun line c.args.clusters c.args.levels.now c.args.width pieces left ahead c.loop-left.room (left_of c.args.runs.now c.loop-left.reader) (run ∷ later)
    c.begin.ensures.same (c.begin.ensures.within c.loop-left.invariant.within) c.loop-left.invariant in
    let n = c.count-count.ensures.number in
    let m = c.first_piece-behind_it.ensures.within in
    let least = c.min-most.ensures in
    let long = level-each line c.args.clusters c.args.levels.now c.args.width pieces left ahead c.loop-left.room run later begun c.count-count.result (omega arith) (omega arith) in
    omega arith

pub slice_bounds-ahead-start : goal.slice_bounds-ahead-start
slice_bounds-ahead-start c =
    let line = left_of c.args.runs.now c.args.cursor.now in
    let run = c.begin.new.self.first in
    let later = drop c.begin.new.self.next c.args.runs.now in
    let pieces = c.loop-left.pieces.items in
    let left = c.loop-left.left in
    let ahead = c.loop-left.ahead.now in
    let begun = cut-begun line c.args.clusters c.args.levels.now c.args.width pieces left ahead c.loop-left.room (left_of c.args.runs.now c.loop-left.reader) (run ∷ later)
    c.begin.ensures.same (c.begin.ensures.within c.loop-left.invariant.within) c.loop-left.invariant in
    let n = c.count-count.ensures.number in
    let m = c.first_piece-behind_it.ensures.within in
    let least = c.min-most.ensures in
    let long = level-each line c.args.clusters c.args.levels.now c.args.width pieces left ahead c.loop-left.room run later begun c.count-count.result (omega arith) (omega arith) in
    omega arith

pub behind-reader-requires-clause-count : goal.behind-reader-requires-clause-count
behind-reader-requires-clause-count c =
    let n = c.count-count.ensures.number in
    let m = c.first_piece-behind_it.ensures.within in
    let least = c.min-most.ensures in
    omega arith

pub behind-reader-requires-clause-within : goal.behind-reader-requires-clause-within
behind-reader-requires-clause-within c =
    All-head IsWithin c.begin.new.self.first (drop c.begin.new.self.next c.args.runs.now) (c.begin.ensures.within c.loop-left.invariant.within)

pub overflow_sub-left : goal.overflow_sub-left
overflow_sub-left c =
    let n = c.count-count.ensures.number in
    let m = c.first_piece-behind_it.ensures.within in
    let least = c.min-most.ensures in
    omega arith

pub loop-left-preserved : goal.loop-left-preserved
loop-left-preserved c =
    let line = left_of c.args.runs.now c.args.cursor.now in
    let run = c.begin.new.self.first in
    let later = drop c.begin.new.self.next c.args.runs.now in
    let pieces = c.loop-left.pieces.items in
    let left = c.loop-left.left in
    let ahead = c.loop-left.ahead.now in
    let begun = cut-begun line c.args.clusters c.args.levels.now c.args.width pieces left ahead c.loop-left.room (left_of c.args.runs.now c.loop-left.reader) (run ∷ later)
    c.begin.ensures.same (c.begin.ensures.within c.loop-left.invariant.within) c.loop-left.invariant in
    let least = c.min-most.ensures in
    cut-next line c.args.clusters c.args.levels.now c.args.width pieces left ahead c.loop-left.room run later begun c.first_piece-behind_it.result.0 c.min-most.result
    c.first_piece-behind_it.result.1 c.push.new.self.items c.first_piece-behind_it.ensures (omega arith) (omega arith) c.in_ok-push.ensures.items c.count-count.result _ c.behind-reader.result _
    c.count-count.ensures.number refl c.behind-reader.ensures (slice-end ahead (c.count-count.result * run.points))

pub returns-clause-spans : goal.returns-clause-spans
returns-clause-spans c =
    cut-spans (left_of c.args.runs.now c.args.cursor.now) c.args.clusters c.args.levels.now c.args.width c.loop-left.pieces.items c.loop-left.left c.loop-left.ahead.now c.loop-left.room
    (left_of c.args.runs.now c.loop-left.reader) (omega arith) c.loop-left.invariant

pub returns-clause-levels : goal.returns-clause-levels
returns-clause-levels c =
    cut-levels (left_of c.args.runs.now c.args.cursor.now) c.args.clusters c.args.levels.now c.args.width c.loop-left.pieces.items c.loop-left.left c.loop-left.ahead.now c.loop-left.room
    (left_of c.args.runs.now c.loop-left.reader) (omega arith) c.loop-left.invariant

pub returns-clause-columns : goal.returns-clause-columns
returns-clause-columns c =
    cut-columns (left_of c.args.runs.now c.args.cursor.now) c.args.clusters c.args.levels.now c.args.width c.loop-left.pieces.items c.loop-left.left c.loop-left.ahead.now c.loop-left.room
    (left_of c.args.runs.now c.loop-left.reader) (omega arith) c.loop-left.invariant

pub returns-clause-passed : goal.returns-clause-passed
returns-clause-passed c =
    cut-passed (left_of c.args.runs.now c.args.cursor.now) c.args.clusters c.args.levels.now c.args.width c.loop-left.pieces.items c.loop-left.left c.loop-left.ahead.now c.loop-left.room
    (left_of c.args.runs.now c.loop-left.reader) (omega arith) c.loop-left.invariant

pub returns-clause-reach : goal.returns-clause-reach
returns-clause-reach c = c.loop-left.invariant.reach

pub returns-clause-within : goal.returns-clause-within
returns-clause-within c = c.loop-left.invariant.within
