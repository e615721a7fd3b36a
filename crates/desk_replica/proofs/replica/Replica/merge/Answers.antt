-- The goals of `merge` that are answered by hand.
use Rattle.desk_replica.proofs.replica.Replica.merge.Goals as goal

pub returns-clause-unpaid : goal.returns-clause-unpaid
returns-clause-unpaid g c = c.merge_to.ensures.unpaid tt
