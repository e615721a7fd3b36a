-- What stays true in the loop of `visible_in`.
use Rattle.std.proofs.Common.{◌≡◌, take}
use Rattle.rga_sequence.specs.Blocks.{seen_all}
use Rattle.rga_sequence.specs.BlockRows.{items_of}
use Rattle.rga_sequence.proofs.before.visible_in.Given as goal

abbrev pub invariant-loop-block : goal.invariant-loop-block
invariant-loop-block l = l.visible ≡ seen_all (take l.block-index (items_of l.blocks))
