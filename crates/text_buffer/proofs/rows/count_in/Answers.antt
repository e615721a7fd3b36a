-- A block is a row.
use Rattle.std.proofs.Common.{length, get_or, ap, arith}
use Rattle.text_buffer.proofs.Places.{row-get}
use Rattle.text_buffer.proofs.rows.count_in.Goals as goal

pub returns : goal.returns
returns g c =
    let bs = c.args.blocks.now in
    let r = c.index-blocks-q.result in
    let x = get_or bs c.args.q r in
    omega (arith, ap length (row-get bs c.args.q r c.requires), x.pieces.ok, c.len.ensures)
