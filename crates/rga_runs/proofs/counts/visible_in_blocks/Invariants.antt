-- What stays true in the loop of `visible_in_blocks`.
use Rattle.std.proofs.Common.{◌≡◌, take}
use Rattle.rga_runs.specs.Stretches.{visible_in}
use Rattle.rga_runs.specs.Blocks.{row_of}
use Rattle.rga_runs.specs.BlockRows.{items_of}
use Rattle.rga_runs.proofs.counts.visible_in_blocks.Given as goal

abbrev pub invariant-loop-block : goal.invariant-loop-block
invariant-loop-block l = l.visible ≡ visible_in (row_of (take l.block-index (items_of l.blocks)))
