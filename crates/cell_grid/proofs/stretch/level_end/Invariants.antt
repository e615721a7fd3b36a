-- All pieces so far have the first one's level.
use Rattle.std.proofs.Common.{◌≡◌, ℕ, ◌-◌, ◌<◌, ◌≤◌, length}
use Rattle.cell_grid.specs.Pieces.{piece_at}
use Rattle.cell_grid.proofs.stretch.level_end.Given as goal

abbrev pub decreases-loop-end : goal.decreases-loop-end
decreases-loop-end l = length l.pieces - l.end

abbrev pub invariant-loop-end : goal.invariant-loop-end
invariant-loop-end l = record {
  begun : l.first < l.end;
  within : l.end ≤ length l.pieces;
  level : (k : ℕ) → l.first ≤ k → k < l.end → (piece_at l.pieces k).level ≡ (piece_at l.pieces l.first).level;
}
