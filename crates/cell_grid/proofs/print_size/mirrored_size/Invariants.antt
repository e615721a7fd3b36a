-- The code points so far are counted, of which each has four bytes at most.
use Rattle.std.proofs.Common.{◌≡◌, ◌≤◌, ◌*◌, length}
use Rattle.cell_grid.specs.Print.{mirrored_text}
use Rattle.cell_grid.proofs.print_size.mirrored_size.Given as goal

abbrev pub invariant-loop-c : goal.invariant-loop-c
invariant-loop-c l = record {
  counted : l.size ≡ length (mirrored_text l.tables l.level l.yielded);
  most : l.size ≤ 4 * length l.yielded;
}
