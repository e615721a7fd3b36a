-- The entries so far have no columns.
use Rattle.std.proofs.Common.{◌≡◌, ℕ, ◌+◌, length}
use Rattle.cell_grid.specs.Cells.{entries_cells}
use Rattle.cell_grid.proofs.cell.next_with_columns.Given as goal

abbrev pub invariant-loop-entry : goal.invariant-loop-entry
invariant-loop-entry l = record {
  cells : (number : ℕ) → entries_cells number l.fn.entries ≡ entries_cells (number + l.passed) l.entries;
  count : l.passed + length l.entries ≡ length l.fn.entries;
}

abbrev pub decreases-loop-entry : goal.decreases-loop-entry
decreases-loop-entry l = length l.entries
