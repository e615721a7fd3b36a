-- The law by its lemma.
use Rattle.caret.proofs.Positions.{moves-in_window}
use Rattle.caret.proofs.laws.moves_in_windows.Goals as goal

pub returns : goal.returns
returns c = moves-in_window
