-- What stays true in the loop of `take_part`.
use Rattle.std.proofs.Common.{◌≤◌, ◌-◌, length, take}
use Rattle.std.specs.Prelude.{All}
use Rattle.bg_types.specs.OperationSet.{Holds}
use Rattle.rga_tree.specs.Elements.{elements}
use Rattle.desk_replica.specs.Listed.{insertions_in, operations_in}
use Rattle.desk_replica.specs.Listening.{IsHeard}
use Rattle.desk_replica.specs.Telling.{ShowsAll}
use Rattle.desk_replica.specs.Merging.{IsErasedIn, IsGrown}
use Rattle.desk_replica.proofs.replica.Replica.take_part.Given as goal

abbrev pub invariant-loop-at : goal.invariant-loop-at
invariant-loop-at g l = record {
  within : l.at ≤ length l.row;
  grown : IsGrown l.fn.self (operations_in (elements (g.S.Sequence.content l.seq))) l.self;
  shows : ShowsAll l.fn.self.set l.self.set;
  erased : All (IsErasedIn l.self.set) (elements (g.S.Sequence.content l.seq));
  done : All (Holds l.self.set) (insertions_in (take l.at l.row));
  heard : IsHeard l.fn.self.set l.self.set (g.L.Listener.told l.fn.listener) (g.L.Listener.told l.listener) (g.L.Listener.capacity l.fn.listener) (g.L.Listener.capacity l.listener);
}

abbrev pub decreases-loop-at : goal.decreases-loop-at
decreases-loop-at g l = length l.row - l.at
