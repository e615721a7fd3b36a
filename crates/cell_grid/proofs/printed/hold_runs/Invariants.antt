-- What the runs that are left print is still to come.
use Rattle.std.proofs.Common.{◌≡◌, ◌++◌, false, length, flat_map}
use Rattle.std.specs.List.{All}
use Rattle.cell_grid.specs.Held.{AppendsAllBut}
use Rattle.cell_grid.specs.Print.{run_text}
use Rattle.cell_grid.specs.Printable.{IsPrintable}
use Rattle.cell_grid.proofs.printed.hold_runs.Given as goal

abbrev pub invariant-loop-rest : goal.invariant-loop-rest
invariant-loop-rest g l = record {
  working : g.W.Sink.has_failed l.sink ≡ false;
  runs : All (IsPrintable l.text) l.rest;
  so_far :
      AppendsAllBut (g.W.Sink.written l.fn.sink) (g.W.Sink.written l.sink) (l.fn.held.bytes ++ flat_map (run_text l.tables l.text) l.runs)
      (l.held.bytes ++ flat_map (run_text l.tables l.text) l.rest);
}

abbrev pub decreases-loop-rest : goal.decreases-loop-rest
decreases-loop-rest g l = length l.rest
