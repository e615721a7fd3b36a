-- What stays true in the loop of `erase_elements`.
use Rattle.std.proofs.Common.{◌≡◌, take}
use Rattle.std.specs.Prelude.{All}
use Rattle.rga_tree.specs.Elements.{elements}
use Rattle.desk_replica.specs.Listed.{deletions_in}
use Rattle.desk_replica.specs.Listening.{IsHeard}
use Rattle.desk_replica.specs.Merging.{IsErasedIn, IsGrown}
use Rattle.desk_replica.proofs.InTurn.{joined}
use Rattle.desk_replica.proofs.replica.Replica.erase_elements.Given as goal

abbrev pub invariant-loop-p : goal.invariant-loop-p
invariant-loop-p g l = record {
  grown : IsGrown l.fn.self (deletions_in (elements (g.S.Sequence.content l.seq))) l.self;
  insertions : l.self.set.ins ≡ l.fn.self.set.ins;
  done : All (IsErasedIn l.self.set) (joined (take l.p (g.S.Sequence.parts l.seq)));
  heard : IsHeard l.fn.self.set l.self.set (g.L.Listener.told l.fn.listener) (g.L.Listener.told l.listener) (g.L.Listener.capacity l.fn.listener) (g.L.Listener.capacity l.listener);
}
