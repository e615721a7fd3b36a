-- The goals of `nothing_held` that are answered by hand.
use Rattle.bg_types.proofs.OperationSets.{Holds-no_operations}
use Rattle.bg_types.proofs.laws.nothing_held.Goals as goal

pub returns : goal.returns
returns c = Holds-no_operations
