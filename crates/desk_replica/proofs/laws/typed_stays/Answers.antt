-- The goals of `typed_stays` that are answered by hand.
use Rattle.desk_replica.proofs.WorldTyped.{stands_there, stays_between, stays_first, stays_last}
use Rattle.desk_replica.proofs.laws.typed_stays.Goals as goal

pub returns : goal.returns
returns c = record { stands = stands_there; between = stays_between; first = stays_first; last = stays_last }
