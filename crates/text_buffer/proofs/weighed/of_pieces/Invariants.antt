-- What weighs that is kept of the paragraphs so far.
use Rattle.std.proofs.Common.{◌≡◌, take}
use Rattle.text_buffer.specs.Pieces.{weight_in}
use Rattle.text_buffer.proofs.weighed.of_pieces.Given as goal

abbrev pub invariant-loop-piece : goal.invariant-loop-piece
invariant-loop-piece g l = l.weight ≡ weight_in g.K.Weighed.weight (take l.piece-index l.pieces)
