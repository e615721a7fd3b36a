-- The runs that are left begin at the column or before, and have the entries from a number on.
use Rattle.std.proofs.Common.{◌≡◌, ◌≤◌, ◌+◌, length, drop}
use Rattle.cell_grid.specs.Runs.{runs_columns, runs_entries}
use Rattle.cell_grid.proofs.cell.cell_in.Given as goal

abbrev pub invariant-loop-run : goal.invariant-loop-run
invariant-loop-run l = record {
  among : drop l.number (runs_entries l.fn.start l.runs) ≡ runs_entries l.left (drop l.run-index l.runs);
  counted : l.number + length (runs_entries l.left (drop l.run-index l.runs)) ≡ length (runs_entries l.fn.start l.runs);
  end : l.left + runs_columns (drop l.run-index l.runs) ≡ l.fn.start + runs_columns l.runs;
  behind : l.left ≤ l.column;
}
