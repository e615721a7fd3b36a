-- The goals of `every_gap` that are answered by hand.
use Rattle.caret.proofs.Steps.{visits_every_gap}
use Rattle.caret.proofs.laws.every_gap.Goals as goal

pub returns : goal.returns
returns c = visits_every_gap
