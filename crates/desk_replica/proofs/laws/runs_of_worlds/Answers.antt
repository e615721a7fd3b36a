-- The goals of `runs_of_worlds` that are answered by hand.
use Rattle.desk_replica.proofs.WorldLaws.{runs_worlds}
use Rattle.desk_replica.proofs.laws.runs_of_worlds.Goals as goal

pub returns : goal.returns
returns c = runs_worlds
