-- The goals of `same_operations` that are answered by hand.
use Rattle.bg_types.proofs.OperationSets.{same_operations}
use Rattle.bg_types.proofs.laws.same_operations.Goals as goal

pub returns : goal.returns
returns c = same_operations
