-- What stays true in the loop of `disagrees_placed`.
use Rattle.std.proofs.Common.{take}
use Rattle.std.specs.Prelude.{All}
use Rattle.bg_types.specs.OperationSet.{MayJoin}
use Rattle.desk_replica.specs.Desk.{insertion_of}
use Rattle.desk_replica.proofs.InTurn.{joined}
use Rattle.desk_replica.proofs.replica.Replica.disagrees_placed.Given as goal

abbrev pub invariant-loop-p : goal.invariant-loop-p
invariant-loop-p g l = All (λ e. MayJoin l.self.set (insertion_of e)) (joined (take l.p (g.S.Sequence.parts l.seq)))
