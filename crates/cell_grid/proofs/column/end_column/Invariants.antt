-- The runs that are left end where all do.
use Rattle.std.proofs.Common.{◌≡◌, ◌+◌, drop}
use Rattle.cell_grid.specs.Runs.{runs_columns}
use Rattle.cell_grid.proofs.column.end_column.Given as goal

abbrev pub invariant-loop-run : goal.invariant-loop-run
invariant-loop-run l = l.end + runs_columns (drop l.run-index l.runs) ≡ l.fn.start + runs_columns l.runs
