-- What stays true in the loop of `lower_behind`.
use Rattle.rga_runs.specs.BlockRows.{items_of}
use Rattle.rga_runs.specs.Bounds.{AreBoundsBut}
use Rattle.rga_runs.proofs.bounds.lower_behind.Given as goal

abbrev pub invariant-loop-g : goal.invariant-loop-g
invariant-loop-g l = AreBoundsBut l.g l.bounds (items_of l.blocks)
