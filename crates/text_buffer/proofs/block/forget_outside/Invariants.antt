-- The first paragraphs are done.
use Rattle.text_buffer.proofs.Forgets.{IsSwept}
use Rattle.text_buffer.proofs.block.forget_outside.Given as goal

abbrev pub invariant-loop-number : goal.invariant-loop-number
invariant-loop-number g l = IsSwept l.spared l.first l.initial.pieces l.pieces l.number
