-- The code points so far are printed as they are shown.
use Rattle.std.proofs.Common.{◌≡◌, ◌++◌, false}
use Rattle.cell_grid.specs.Held.{AppendsAllBut}
use Rattle.cell_grid.specs.Print.{mirrored_text}
use Rattle.cell_grid.proofs.printed.hold_mirrored.Given as goal

abbrev pub invariant-loop-c : goal.invariant-loop-c
invariant-loop-c g l = record {
  working : g.W.Sink.has_failed l.sink ≡ false;
  so_far : AppendsAllBut (g.W.Sink.written l.fn.sink) (g.W.Sink.written l.sink) (l.fn.held.bytes ++ mirrored_text l.tables l.level l.yielded) l.held.bytes;
}
