-- What stays true in the loop of `count_all`.
use Rattle.std.proofs.Common.{◌≡◌, take}
use Rattle.rga_runs.specs.Stretches.{count_in}
use Rattle.rga_runs.proofs.search.count_all.Given as goal

abbrev pub invariant-loop-stretch : goal.invariant-loop-stretch
invariant-loop-stretch l = l.count ≡ count_in (take l.stretch-index l.stretches)
