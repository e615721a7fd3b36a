-- The block was found, whatever it is.
use Rattle.text_buffer.specs.Places.{IsInFront}
use Rattle.text_buffer.proofs.find.back_to_paragraph.Given as goal

abbrev pub invariant-loop-before : goal.invariant-loop-before
invariant-loop-before g l = IsInFront l.blocks l.before

abbrev pub decreases-loop-before : goal.decreases-loop-before
decreases-loop-before g l = l.before.block
