-- All spaces but those that are left are printed.
use Rattle.std.proofs.Common.{◌≡◌, ◌-◌, ◌≤◌, ◌++◌, false, replicate}
use Rattle.cell_grid.specs.Held.{AppendsAllBut}
use Rattle.cell_grid.proofs.held.hold_spaces.Given as goal

abbrev pub invariant-loop-left : goal.invariant-loop-left
invariant-loop-left g l = record {
  working : g.W.Sink.has_failed l.sink ≡ false;
  within : l.left ≤ l.fn.columns;
  so_far : AppendsAllBut (g.W.Sink.written l.fn.sink) (g.W.Sink.written l.sink) (l.fn.held.bytes ++ replicate (l.fn.columns - l.left) 32) l.held.bytes;
}

abbrev pub decreases-loop-left : goal.decreases-loop-left
decreases-loop-left g l = l.left
