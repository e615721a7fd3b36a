-- What stays true in the loop of `pass_together`.
use Rattle.std.proofs.Common.{◌≡◌, ◌≤◌, ◌+◌, ◌-◌, take, length, sum}
use Rattle.rga_runs.proofs.counts.pass_together.Given as goal

abbrev pub invariant-loop-passed : goal.invariant-loop-passed
invariant-loop-passed l = record {
  there : l.passed ≤ length l.sums;
  before : sum (take l.passed l.sums) + l.left ≡ l.k;
}

abbrev pub decreases-loop-passed : goal.decreases-loop-passed
decreases-loop-passed l = length l.sums - l.passed
