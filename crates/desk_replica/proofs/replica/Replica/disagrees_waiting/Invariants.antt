-- What stays true in the loop of `disagrees_waiting`.
use Rattle.std.proofs.Common.{take}
use Rattle.std.specs.Prelude.{All}
use Rattle.bg_types.specs.OperationSet.{MayJoin}
use Rattle.desk_replica.specs.Placement.{waiting_in}
use Rattle.desk_replica.proofs.replica.Replica.disagrees_waiting.Given as goal

abbrev pub invariant-loop-j : goal.invariant-loop-j
invariant-loop-j g l = All (MayJoin l.self.set) (take l.j (waiting_in l.held))
