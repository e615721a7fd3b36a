-- What weighs that is kept of the blocks so far.
use Rattle.std.proofs.Common.{◌≡◌, take}
use Rattle.text_buffer.specs.Pieces.{weight_in}
use Rattle.text_buffer.specs.Blocks.{joined, rows_of}
use Rattle.text_buffer.proofs.weighed.of_blocks.Given as goal

abbrev pub invariant-loop-block : goal.invariant-loop-block
invariant-loop-block g l = l.weight ≡ weight_in g.K.Weighed.weight (joined (take l.block-index (rows_of l.blocks)))
