-- The goal of `at` that is answered by hand.
use Rattle.std.proofs.Common.{length, get_or, ap, arith}
use Rattle.rga_runs.specs.declared.stretch.Stretch.{Stretch}
use Rattle.rga_runs.specs.Blocks.{at_spot}
use Rattle.rga_runs.specs.BlockRows.{items_of}
use Rattle.rga_runs.specs.Indexed.{stretches_in}
use Rattle.rga_runs.proofs.BlockLists.{length-items}
use Rattle.rga_runs.proofs.Chunks.{at_less}
use Rattle.rga_runs.proofs.Rows.{stored_at, stored_le}
use Rattle.rga_runs.proofs.Spots.{read_row}
use Rattle.rga_runs.proofs.runs.Runs.at.Goals as goal

pub element-requires-clause-stored : goal.element-requires-clause-stored
element-requires-clause-stored c =
    let self = c.args.self.now in
    let r = self.row in
    let chars = self.characters.items in
    let xs = items_of r.blocks.items in
    let ss = stretches_in r in
    let p = at_spot xs c.args.b c.args.j in
    let s = c.index-2.result.now in
    let there = at_less xs c.args.b c.args.j (omega (arith, length-items r.blocks.items, r.blocks.ok, c.requires.block)) c.requires.within in
    let read = read_row r.blocks.items c.args.b c.args.j c.index.result.now s s (omega (arith, r.blocks.ok, c.requires.block)) c.requires.within c.index.ensures c.index-2.ensures in
    let last = stored_le (length chars) (get_or ss p s) (stored_at (length chars) ss p s self.stored there) in
    omega (arith, last, ap (λ (z : Stretch). z.start) read, ap (λ (z : Stretch). z.count) read, ap length c.deref.ensures.value)
