-- The goals of `union_law` that are answered by hand.
use Rattle.desk_replica.proofs.UnionLaw.{commutative, associative, idempotent}
use Rattle.desk_replica.proofs.laws.union_law.Goals as goal

pub returns : goal.returns
returns c = record { commutative = commutative; associative = λ s t u _ _ _. associative s t u; idempotent = idempotent }
