-- The goals of `one_more_operation` that are answered by hand.
use Rattle.bg_types.proofs.OperationSets.{Holds-with_operation, size-with_operation, with_operation-known}
use Rattle.bg_types.proofs.laws.one_more_operation.Goals as goal

pub returns-clause-holds : goal.returns-clause-holds
returns-clause-holds c = Holds-with_operation

pub returns-clause-grows : goal.returns-clause-grows
returns-clause-grows c = size-with_operation

pub returns-clause-known : goal.returns-clause-known
returns-clause-known c = with_operation-known
