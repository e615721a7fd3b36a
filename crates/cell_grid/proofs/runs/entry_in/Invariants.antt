-- The entry is among those of the runs that are left.
use Rattle.std.proofs.Common.{◌≡◌, ◌+◌, ◌^◌, ◌<◌, drop, slice_get}
use Rattle.cell_grid.specs.Runs.{runs_columns, runs_entries}
use Rattle.cell_grid.proofs.runs.entry_in.Given as goal

abbrev pub invariant-loop-run : goal.invariant-loop-run
invariant-loop-run l = record {
  among : slice_get (runs_entries l.column (drop l.run-index l.runs)) l.left ≡ slice_get (runs_entries l.fn.start l.runs) l.fn.number;
  fits : l.column + runs_columns (drop l.run-index l.runs) < 2 ^ 16;
}
