-- What stays true in the loop of `erase_row`.
use Rattle.std.proofs.Common.{◌≡◌, take}
use Rattle.std.specs.Prelude.{All}
use Rattle.desk_replica.specs.Listed.{deletions_in}
use Rattle.desk_replica.specs.Listening.{IsHeard}
use Rattle.desk_replica.specs.Merging.{IsErasedIn, IsGrown}
use Rattle.desk_replica.proofs.replica.Replica.erase_row.Given as goal

abbrev pub invariant-loop-e : goal.invariant-loop-e
invariant-loop-e g l = record {
  grown : IsGrown l.fn.self (deletions_in l.row) l.self;
  insertions : l.self.set.ins ≡ l.fn.self.set.ins;
  done : All (IsErasedIn l.self.set) (take l.e-index l.row);
  heard : IsHeard l.fn.self.set l.self.set (g.L.Listener.told l.fn.listener) (g.L.Listener.told l.listener) (g.L.Listener.capacity l.fn.listener) (g.L.Listener.capacity l.listener);
}
