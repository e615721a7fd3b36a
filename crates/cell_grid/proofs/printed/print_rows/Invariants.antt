-- The rows so far are written.
use Rattle.std.proofs.Common.{◌≡◌, false, take, flat_map}
use Rattle.std.specs.Io.KnownBytes.{Appends}
use Rattle.cell_grid.specs.Print.{row_text}
use Rattle.cell_grid.proofs.printed.print_rows.Given as goal

abbrev pub invariant-loop-row : goal.invariant-loop-row
invariant-loop-row g l = record {
  working : g.W.Sink.has_failed l.sink ≡ false;
  so_far : Appends (g.W.Sink.written l.fn.sink) (g.W.Sink.written l.sink) (flat_map (row_text l.tables l.text) (take l.row-index l.rows));
}
