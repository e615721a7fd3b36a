-- The goals of `visible_in` that are answered by hand.
use Rattle.std.proofs.Common.{arith}
use Rattle.rga_sequence.proofs.Numbers.{length-items}
use Rattle.rga_sequence.proofs.blocks.BlocksLook.visible_in.Goals as goal

pub index-requires : goal.index-requires
index-requires c =
    let blocks = c.args.self.now.row.blocks in
    omega (arith, c.requires.block, length-items blocks.items, blocks.ok)
