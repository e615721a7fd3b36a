-- The block is found before the blocks end, since they have more paragraphs than are passed.
use Rattle.std.proofs.Common.{arith}
use Rattle.text_buffer.proofs.Places.{parts-of, block-more}
use Rattle.text_buffer.proofs.find.block_of.Goals as goal

pub overflow_add-before : goal.overflow_add-before
overflow_add-before g c =
    let all = parts-of c.args.blocks.now c.loop-before.before c.loop-before.invariant.stands in
    omega (arith, all.paragraphs, c.count_in.ensures, c.requires.fits.paragraphs)

pub next_to-before-requires-clause-more : goal.next_to-before-requires-clause-more
next_to-before-requires-clause-more g c =
    block-more c.args.blocks.now c.loop-before.before c.loop-before.invariant.stands c.args.number c.requires.there (omega (arith, c.loop-before-test.true, c.count_in.ensures))
