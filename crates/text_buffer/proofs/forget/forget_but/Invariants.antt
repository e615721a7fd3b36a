-- The first blocks are done, and each has the texts that it had.
use Rattle.std.proofs.Common.{◌≡◌, map}
use Rattle.text_buffer.specs.Pieces.{points_in}
use Rattle.text_buffer.specs.Blocks.{rows_of}
use Rattle.text_buffer.proofs.Forgets.{AreSwept}
use Rattle.text_buffer.proofs.forget.forget_but.Given as goal

abbrev pub invariant-loop-q : goal.invariant-loop-q
invariant-loop-q g l = record {
  swept : AreSwept l.spared (rows_of l.initial.blocks) (rows_of l.blocks) l.q l.before;
  rows : map points_in (rows_of l.blocks) ≡ map points_in (rows_of l.initial.blocks);
}
