-- A block's first paragraph stands behind the last one of the block in front.
use Rattle.std.proofs.Common.{arith}
use Rattle.text_buffer.proofs.Founds.{row-some}
use Rattle.text_buffer.proofs.find.block_in_front.Goals as goal

pub returns : goal.returns
returns g c =
    let s = c.previous_to.ensures.stands in
    let some = row-some c.args.blocks.now c.previous_to.result.block s.within in
    record {
      stands = s;
      reached = omega (arith, c.if-before-number.false, c.requires.block.reached, c.previous_to.ensures.paragraphs, some);
      here = omega (arith, c.if-before-number.false, c.requires.block.reached, c.previous_to.ensures.paragraphs, some, c.requires.some);
    }
