-- The runs so far are counted, beside what no run prints.
use Rattle.std.proofs.Common.{◌≡◌, ◌+◌, length, take, flat_map}
use Rattle.cell_grid.specs.Print.{run_text}
use Rattle.cell_grid.proofs.print_size.row_print_size.Given as goal

abbrev pub invariant-loop-run : goal.invariant-loop-run
invariant-loop-run l = l.size ≡ l.initial.size + length (flat_map (run_text l.tables l.text) (take l.run-index l.run-items))
