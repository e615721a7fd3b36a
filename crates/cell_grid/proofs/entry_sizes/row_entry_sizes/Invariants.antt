-- The front of the list has the sizes of the entries that were gone over, and the rest is as it was.
use Rattle.std.proofs.Common.{◌≡◌, ◌++◌, length, map, take, drop}
use Rattle.cell_grid.specs.Print.{own_text}
use Rattle.cell_grid.proofs.entry_sizes.row_entry_sizes.Given as goal

abbrev pub invariant-loop-entry : goal.invariant-loop-entry
invariant-loop-entry l = record {
  counted : l.number ≡ length l.yielded;
  written : l.sizes ≡ map (λ e. length (own_text l.tables l.text e)) (take l.number l.row.entries) ++ drop l.number l.fn.sizes;
}
