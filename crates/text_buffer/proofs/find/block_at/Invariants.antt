-- What stands before the block, and that it isn't too much.
use Rattle.std.proofs.Common.{◌≤◌, ◌-◌, length}
use Rattle.text_buffer.specs.Places.{IsInFront}
use Rattle.text_buffer.proofs.find.block_at.Given as goal

abbrev pub invariant-loop-before : goal.invariant-loop-before
invariant-loop-before g l = record {
  stands : IsInFront l.blocks l.before;
  reached : l.before.places ≤ l.place;
}

abbrev pub decreases-loop-before : goal.decreases-loop-before
decreases-loop-before g l = length l.blocks - l.before.block
