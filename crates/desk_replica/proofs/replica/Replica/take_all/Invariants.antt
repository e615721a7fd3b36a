-- What stays true in the loop of `take_all`.
use Rattle.std.proofs.Common.{◌≤◌, ◌-◌, length}
use Rattle.bg_types.specs.OperationSet.{size}
use Rattle.desk_replica.specs.Taking.{AreTaken}
use Rattle.desk_replica.proofs.replica.Replica.take_all.Given as goal

abbrev pub invariant-loop-taken : goal.invariant-loop-taken
invariant-loop-taken g l = record {
  taken : AreTaken l.fn.self l.ops l.taken l.self;
  limited : size l.self.set ≤ 1_000_000;
}

abbrev pub decreases-loop-taken : goal.decreases-loop-taken
decreases-loop-taken g l = length l.ops - l.taken
