-- The goals of `opposites` that are answered by hand.
use Rattle.caret.proofs.Steps.{undone_by_opposite}
use Rattle.caret.proofs.laws.opposites.Goals as goal

pub returns : goal.returns
returns c = undone_by_opposite
