-- What stays true in the loop of `set_data`.
use Rattle.std.proofs.Common.{◌≡◌, ℕ, ◌+◌, ◌<◌, length, get_or}
use Rattle.ucd_files.specs.Line.{lines_of, lines_left}
use Rattle.ucd_files.specs.Reading.{line_of, first_faulty}
use Rattle.ucd_files.specs.Passes.{data_said, overlaid}
use Rattle.ucd_files.proofs.read.set_data.Given as goal

abbrev pub invariant-loop-line : goal.invariant-loop-line
invariant-loop-line g l =
    let reading = g.V.FileValue.reading in
    let left = lines_left l.line-iterator.rest in
    (goal.iterator-loop-line g).can_next l.line-iterator
    × (goal.iterator-loop-line g).is_finite l.line-iterator
    × (l.number + length left ≡ length (lines_of l.bytes))
    × (first_faulty (line_of reading) left (l.number + 1) ≡ first_faulty (line_of reading) (lines_of l.bytes) 1)
    × ((c : ℕ) (d : g.row.V.Denot) → c < 0x110000 → overlaid (data_said reading) left c (get_or l.values c d) ≡ overlaid (data_said reading) (lines_of l.bytes) c (get_or l.fn.values c d))
