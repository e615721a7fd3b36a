-- The goals of `visible_in_blocks` that are answered by hand.
use Rattle.std.proofs.Common.{◌+◌, arith}
use Rattle.rga_runs.specs.BlockRows.{items_of}
use Rattle.rga_runs.proofs.Sums.{sum_next, sum_front}
use Rattle.rga_runs.proofs.counts.visible_in_blocks.Goals as goal
use Rattle.rga_runs.specs.Stretches.{visible_of}

pub loop-block-preserved : goal.loop-block-preserved
loop-block-preserved c =
    let x = c.block-item.result in
    let is = x.visible_are in
    omega (arith, c.loop-block.invariant, sum_next visible_of c.args.blocks.now c.loop-block.block-index x c.loop-block-test.true c.block-item.is, is)

pub overflow_add-visible : goal.overflow_add-visible
overflow_add-visible c =
    let x = c.block-item.result in
    let is = x.visible_are in
    omega (
      arith,
      c.loop-block.invariant,
      sum_next visible_of c.args.blocks.now c.loop-block.block-index x c.loop-block-test.true c.block-item.is,
      is,
      sum_front visible_of (items_of c.args.blocks.now) (c.loop-block.block-index + 1),
      c.requires,
    )
