-- What stays true in the loop of `block_at`.
use Rattle.std.proofs.Common.{◌≡◌, ◌<◌, ◌-◌, length}
use Rattle.rga_sequence.specs.Blocks.{joined, offset}
use Rattle.rga_sequence.specs.BlockRows.{items_of}
use Rattle.rga_sequence.proofs.row.block_at.Given as goal

abbrev pub invariant-loop-left : goal.invariant-loop-left
invariant-loop-left l = record {
  place : offset (items_of l.blocks) l.b l.left ≡ l.j;
  within : l.j < length (joined (items_of l.blocks));
  there : l.b < length l.blocks;
}

abbrev pub decreases-loop-left : goal.decreases-loop-left
decreases-loop-left l = length l.initial.blocks - l.b
