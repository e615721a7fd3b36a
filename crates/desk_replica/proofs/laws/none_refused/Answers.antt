-- The goals of `none_refused` that are answered by hand.
use Rattle.desk_replica.proofs.Refusals.{refused_apart}
use Rattle.desk_replica.proofs.laws.none_refused.Goals as goal

pub returns : goal.returns
returns c = refused_apart
