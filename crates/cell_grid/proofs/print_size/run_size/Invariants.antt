-- The entries so far are counted, of which each has less than 2^34 bytes.
use Rattle.std.proofs.Common.{◌≡◌, ◌≤◌, ◌*◌, ◌^◌, length, take, flat_map}
use Rattle.cell_grid.specs.Print.{own_text}
use Rattle.cell_grid.specs.Runs.{run_entries}
use Rattle.cell_grid.proofs.print_size.run_size.Given as goal

abbrev pub invariant-loop-number : goal.invariant-loop-number
invariant-loop-number l = record {
  counted : l.size ≡ length (flat_map (own_text l.tables l.text) (take l.number (run_entries 0 l.run)));
  most : l.size ≤ l.number * 2 ^ 34;
}
