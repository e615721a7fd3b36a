-- Before the first block nothing stands.
use Rattle.std.proofs.Common.{arith}
use Rattle.text_buffer.proofs.Places.{first-none}
use Rattle.text_buffer.proofs.find.back_to_paragraph.Goals as goal

pub previous_to-before-requires-clause-some : goal.previous_to-before-requires-clause-some
previous_to-before-requires-clause-some g c =
    (first-none c.args.blocks.now c.loop-before.before c.loop-before.invariant).paragraphs (omega (arith, c.loop-before-test.true))
