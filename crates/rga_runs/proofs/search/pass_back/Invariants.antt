-- What stays true in the loop of `pass_back`.
use Rattle.std.proofs.Common.{◌≡◌, ◌≤◌, ◌+◌, take, length}
use Rattle.rga_runs.specs.Stretches.{count_in}
use Rattle.rga_runs.proofs.search.pass_back.Given as goal

abbrev pub invariant-loop-end : goal.invariant-loop-end
invariant-loop-end l = record {
  there : l.end ≤ length l.stretches;
  before : count_in (take l.end l.stretches) + l.n ≡ count_in l.stretches + l.behind;
}

abbrev pub decreases-loop-end : goal.decreases-loop-end
decreases-loop-end l = l.end
