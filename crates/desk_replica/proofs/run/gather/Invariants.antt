-- What stays true in the loop of `gather`.
use Rattle.desk_replica.proofs.InFront.{IsGathered}
use Rattle.desk_replica.proofs.run.gather.Given as goal

abbrev pub invariant-loop-count : goal.invariant-loop-count
invariant-loop-count l = IsGathered l.first l.front l.ops l.bytes l.count l.end l.counter l.parent
