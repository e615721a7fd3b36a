-- The law by its lemma.
use Rattle.caret.proofs.Positions.{positions-carets}
use Rattle.caret.proofs.laws.positions_are_carets.Goals as goal

pub returns : goal.returns
returns c = positions-carets
