-- What stays true in the loop of `pass_front`.
use Rattle.std.proofs.Common.{◌≡◌, ◌≤◌, ◌+◌, ◌-◌, take, length}
use Rattle.rga_runs.specs.Stretches.{count_in}
use Rattle.rga_runs.proofs.search.pass_front.Given as goal

abbrev pub invariant-loop-passed : goal.invariant-loop-passed
invariant-loop-passed l = record {
  there : l.passed ≤ length l.stretches;
  before : count_in (take l.passed l.stretches) + l.left ≡ l.j;
}

abbrev pub decreases-loop-passed : goal.decreases-loop-passed
decreases-loop-passed l = length l.stretches - l.passed
