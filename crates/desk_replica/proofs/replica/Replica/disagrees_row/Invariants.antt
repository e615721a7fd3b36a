-- What stays true in the loop of `disagrees_row`.
use Rattle.std.proofs.Common.{◌≤◌, ◌-◌, length, take}
use Rattle.std.specs.Prelude.{All}
use Rattle.bg_types.specs.OperationSet.{MayJoin}
use Rattle.desk_replica.specs.Desk.{insertion_of}
use Rattle.desk_replica.proofs.replica.Replica.disagrees_row.Given as goal

abbrev pub invariant-loop-at : goal.invariant-loop-at
invariant-loop-at g l = record {
  within : l.at ≤ length l.row;
  joins : All (λ e. MayJoin l.self.set (insertion_of e)) (take l.at l.row);
}

abbrev pub decreases-loop-at : goal.decreases-loop-at
decreases-loop-at g l = length l.row - l.at
