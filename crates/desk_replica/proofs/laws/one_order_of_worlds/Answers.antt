-- The goals of `one_order_of_worlds` that are answered by hand.
use Rattle.desk_replica.proofs.WorldLaws.{order_worlds}
use Rattle.desk_replica.proofs.laws.one_order_of_worlds.Goals as goal

pub returns : goal.returns
returns c = order_worlds
