-- The goal of `part_count` that is answered by hand.
use Rattle.std.proofs.Common.{arith}
use Rattle.rga_runs.specs.BlockRows.{items_of}
use Rattle.rga_runs.proofs.BlockLists.{length-items}
use Rattle.rga_runs.proofs.Filled.{length-parts_filled}
use Rattle.rga_runs.proofs.runs.RunsSequence.part_count.Goals as goal

pub returns : goal.returns
returns c =
    let self = c.args.self.now in
    let bs = self.row.blocks.items in
    omega (arith, c.len.ensures, self.row.blocks.ok, length-items bs, length-parts_filled self.characters.items (items_of bs))
