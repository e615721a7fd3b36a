-- The goal of `least_of` that is answered by hand.
use Rattle.rga_runs.proofs.Low.{low_more}
use Rattle.rga_runs.proofs.block.least_of.Goals as goal

pub loop-stretch-preserved : goal.loop-stretch-preserved
loop-stretch-preserved c =
    low_more c.loop-stretch.least c.lesser-least.result c.args.stretches.now c.loop-stretch.stretch-index c.stretch-item.result c.loop-stretch-test.true c.stretch-item.is c.loop-stretch.invariant c.lesser-least.ensures
