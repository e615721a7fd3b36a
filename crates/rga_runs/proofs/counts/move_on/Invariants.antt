-- What stays true in the loop of `move_on`.
use Rattle.rga_runs.specs.BlockRows.{items_of}
use Rattle.rga_runs.specs.Sums.{AreSumsBut}
use Rattle.rga_runs.proofs.counts.move_on.Given as goal

abbrev pub invariant-loop-g : goal.invariant-loop-g
invariant-loop-g l = AreSumsBut l.g l.came l.sums (items_of l.blocks)
