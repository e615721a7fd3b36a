-- The goals of `one_set` that are answered by hand.
use Rattle.desk_replica.proofs.Refusals.{IsSetOf-unique}
use Rattle.desk_replica.proofs.laws.one_set.Goals as goal

pub returns : goal.returns
returns c = IsSetOf-unique
