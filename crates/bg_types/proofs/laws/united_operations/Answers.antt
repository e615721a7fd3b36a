-- The goals of `united_operations` that are answered by hand.
use Rattle.bg_types.proofs.OperationSets.{Holds-union}
use Rattle.bg_types.proofs.laws.united_operations.Goals as goal

pub returns : goal.returns
returns c = Holds-union
