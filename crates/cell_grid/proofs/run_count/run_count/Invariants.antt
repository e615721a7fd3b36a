-- Those of the runs so far are counted.
use Rattle.std.proofs.Common.{◌≡◌, ℕ, ◌≤◌, take}
use Rattle.cell_grid.specs.RunCounts.{run_count}
use Rattle.cell_grid.specs.Runs.{runs_entries}
use Rattle.cell_grid.proofs.run_count.run_count.Given as goal

abbrev pub invariant-loop-number : goal.invariant-loop-number
invariant-loop-number l = record {
  counted : (start : ℕ) → l.count ≡ run_count (runs_entries start (take l.number l.runs));
  few : l.count ≤ l.number;
}
