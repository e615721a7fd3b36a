-- What stays true in the loop of `spot_of`.
use Rattle.std.proofs.Common.{◌≡◌, ◌+◌, take}
use Rattle.rga_runs.specs.Stretches.{count_in}
use Rattle.rga_runs.proofs.search.spot_of.Given as goal

abbrev pub invariant-loop-p : goal.invariant-loop-p
invariant-loop-p l = count_in (take l.p l.stretches) + l.left ≡ l.j
