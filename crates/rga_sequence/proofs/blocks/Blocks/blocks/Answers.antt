-- The goals of `blocks` that are answered by hand.
use Rattle.std.proofs.Common.{◌≡◌, length, ap, arith}
use Rattle.rga_sequence.specs.BlockRows.{items_of}
use Rattle.rga_sequence.proofs.Halves.{few_blocks}
use Rattle.rga_sequence.proofs.Numbers.{length-items}
use Rattle.rga_sequence.proofs.blocks.Blocks.blocks.Goals as goal

pub returns-clause-few : goal.returns-clause-few
returns-clause-few c =
    let bs = c.args.self.now.row.blocks.items in
    let len_xs : length (items_of bs) ≡ length bs = length-items bs in
    let few = few_blocks (items_of bs) c.args.self.now.indexed.halves in
    let placed = ap length c.args.self.now.keeps_walk.in_order in
    omega (arith, c.len.ensures, c.args.self.now.row.blocks.ok, len_xs, few, placed)
