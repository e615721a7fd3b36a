-- What stands in the blocks that were passed, and what is left.
use Rattle.std.proofs.Common.{◌≡◌, ◌≤◌, ◌+◌, ◌-◌, take, length}
use Rattle.rga_runs.specs.BlockRows.{items_of}
use Rattle.rga_runs.specs.Stretches.{visible_in}
use Rattle.rga_runs.specs.Blocks.{row_of}
use Rattle.rga_runs.proofs.counts.pass_blocks.Given as goal

abbrev pub invariant-loop-passed : goal.invariant-loop-passed
invariant-loop-passed l = record {
  there : l.passed ≤ length l.blocks;
  before : visible_in (row_of (take l.passed (items_of l.blocks))) + l.left ≡ l.k;
}

abbrev pub decreases-loop-passed : goal.decreases-loop-passed
decreases-loop-passed l = length l.blocks - l.passed
