-- What stays true in the loop of `set_defaults`.
use Rattle.std.proofs.Common.{◌≡◌, ℕ, ◌<◌, get_or}
use Rattle.ucd_files.specs.Line.{lines_of, lines_left}
use Rattle.ucd_files.specs.Passes.{overlaid}
use Rattle.ucd_files.proofs.read.set_defaults.Given as goal

abbrev pub invariant-loop-line : goal.invariant-loop-line
invariant-loop-line g l =
    let says = g.V.FileValue.reading.missing in
    let left = lines_left l.line-iterator.rest in
    (goal.iterator-loop-line g).can_next l.line-iterator
    × (goal.iterator-loop-line g).is_finite l.line-iterator
    × ((c : ℕ) (d : g.row.V.Denot) → c < 0x110000 → overlaid says left c (get_or l.values c d) ≡ overlaid says (lines_of l.bytes) c (get_or l.fn.values c d))
