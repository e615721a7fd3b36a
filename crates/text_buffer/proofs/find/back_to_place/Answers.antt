-- Before the first block nothing stands.
use Rattle.std.proofs.Common.{arith}
use Rattle.text_buffer.proofs.Places.{first-none}
use Rattle.text_buffer.proofs.find.back_to_place.Goals as goal

pub previous_to-before-requires-clause-some : goal.previous_to-before-requires-clause-some
previous_to-before-requires-clause-some g c =
    (first-none c.args.blocks.now c.loop-before.before c.loop-before.invariant).places (omega (arith, c.loop-before-test.true))
