-- What stands in the neighbours that were passed, and what is left.
use Rattle.std.proofs.Common.{◌≡◌, ◌≤◌, ◌+◌, ◌*◌, ◌-◌, take, length}
use Rattle.rga_sequence.specs.BlockRows.{items_of}
use Rattle.rga_sequence.specs.Blocks.{seen_all}
use Rattle.rga_sequence.proofs.counted.pass.Given as goal

abbrev pub invariant-loop-passed : goal.invariant-loop-passed
invariant-loop-passed l = record {
  there : l.passed ≤ length l.sums;
  before : seen_all (take (32 * l.passed) (items_of l.blocks)) + l.left ≡ l.k;
}

abbrev pub decreases-loop-passed : goal.decreases-loop-passed
decreases-loop-passed l = length l.sums - l.passed
