-- What stays true in the loop of `least_of`.
use Rattle.std.proofs.Common.{◌≡◌, true, take}
use Rattle.rga_runs.specs.Blocks.{none_below}
use Rattle.rga_runs.proofs.block.least_of.Given as goal

abbrev pub invariant-loop-stretch : goal.invariant-loop-stretch
invariant-loop-stretch l = none_below l.least (take l.stretch-index l.stretches) ≡ true
