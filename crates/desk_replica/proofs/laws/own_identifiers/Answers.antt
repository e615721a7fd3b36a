-- The goals of `own_identifiers` that are answered by hand.
use Rattle.desk_replica.proofs.WorldRuns.{IsSound-world}
use Rattle.desk_replica.proofs.laws.own_identifiers.Goals as goal

pub returns : goal.returns
returns c sites w world = (IsSound-world sites w world).once
