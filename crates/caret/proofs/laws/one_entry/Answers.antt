-- The goals of `one_entry` that are answered by hand.
use Rattle.caret.proofs.Steps.{crosses_one_entry}
use Rattle.caret.proofs.laws.one_entry.Goals as goal

pub returns : goal.returns
returns c = crosses_one_entry
