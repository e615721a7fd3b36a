-- The goals of `pieces_move_as_one` that are answered by hand.
use Rattle.reorder.proofs.PiecesOrder.{pieces-move_as_one}
use Rattle.reorder.proofs.laws.pieces_move_as_one.Goals as goal

pub returns : goal.returns
returns c = pieces-move_as_one
