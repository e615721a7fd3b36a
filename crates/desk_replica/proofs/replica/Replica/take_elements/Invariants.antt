-- What stays true in the loop of `take_elements`.
use Rattle.std.proofs.Common.{take}
use Rattle.std.specs.Prelude.{All}
use Rattle.bg_types.specs.OperationSet.{Holds}
use Rattle.rga_tree.specs.Elements.{elements}
use Rattle.desk_replica.specs.Listed.{insertions_in, operations_in}
use Rattle.desk_replica.specs.Listening.{IsHeard}
use Rattle.desk_replica.specs.Telling.{ShowsAll}
use Rattle.desk_replica.specs.Merging.{IsErasedIn, IsGrown}
use Rattle.desk_replica.proofs.InTurn.{joined}
use Rattle.desk_replica.proofs.replica.Replica.take_elements.Given as goal

abbrev pub invariant-loop-p : goal.invariant-loop-p
invariant-loop-p g l = record {
  grown : IsGrown l.fn.self (operations_in (elements (g.S.Sequence.content l.seq))) l.self;
  shows : ShowsAll l.fn.self.set l.self.set;
  erased : All (IsErasedIn l.self.set) (elements (g.S.Sequence.content l.seq));
  done : All (Holds l.self.set) (insertions_in (joined (take l.p (g.S.Sequence.parts l.seq))));
  heard : IsHeard l.fn.self.set l.self.set (g.L.Listener.told l.fn.listener) (g.L.Listener.told l.listener) (g.L.Listener.capacity l.fn.listener) (g.L.Listener.capacity l.listener);
}
