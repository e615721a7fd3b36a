-- Each cluster so far has the first one's level.
use Rattle.std.proofs.Common.{◌≡◌, ℕ, ◌-◌, ◌*◌, ◌<◌, ◌≤◌, slice_index}
use Rattle.cell_grid.proofs.piece.alike.Given as goal

abbrev pub decreases-loop-count : goal.decreases-loop-count
decreases-loop-count l = l.most - l.count

abbrev pub invariant-loop-count : goal.invariant-loop-count
invariant-loop-count l = record {
  some : 0 < l.count;
  most : l.count ≤ l.most;
  place : l.place ≡ l.count * l.points;
  level : (k : ℕ) → k < l.count → slice_index l.levels (k * l.points) ≡ slice_index l.levels 0;
}
