-- The goals of `spot_at` that are answered by hand.
use Rattle.std.proofs.Common.{arith}
use Rattle.rga_tree.proofs.Interface.{visible_row, seen_all-joined}
use Rattle.rga_sequence.specs.Indexed.{blocks_in, elements_in}
use Rattle.rga_sequence.proofs.blocks.BlocksSequence.spot_at.Goals as goal

pub find_spot-b-requires-clause-there : goal.find_spot-b-requires-clause-there
find_spot-b-requires-clause-there c =
    let row = c.args.self.now.row in
    omega (arith, seen_all-joined (blocks_in row), visible_row (elements_in row) c.args.self.now.keeps_walk.in_order, c.requires)
