-- Counting finds the same PDI as the tree.
use Rattle.bidi_explicit.proofs.Balance.{matches-where-balanced}
use Rattle.bidi_explicit.proofs.laws.matching_law.Goals as goal

pub returns : goal.returns
returns c = matches-where-balanced
