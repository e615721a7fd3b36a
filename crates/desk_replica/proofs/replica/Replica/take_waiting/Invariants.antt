-- What stays true in the loop of `take_waiting`.
use Rattle.std.proofs.Common.{◌≡◌, true, false, take}
use Rattle.std.specs.Prelude.{All}
use Rattle.bg_types.specs.OperationSet.{Holds}
use Rattle.desk_replica.specs.Placement.{waiting_in}
use Rattle.desk_replica.specs.Listening.{IsHeard}
use Rattle.desk_replica.specs.Telling.{ShowsAll}
use Rattle.desk_replica.specs.Merging.{IsGrown, is_deletion}
use Rattle.desk_replica.proofs.replica.Replica.take_waiting.Given as goal

abbrev pub invariant-loop-j : goal.invariant-loop-j
invariant-loop-j g l = record {
  grown : IsGrown l.fn.self (waiting_in l.held) l.self;
  insertions : l.deletions ≡ true → l.self.set.ins ≡ l.fn.self.set.ins;
  shows : l.deletions ≡ false → ShowsAll l.fn.self.set l.self.set;
  done : All (λ op. is_deletion op ≡ l.deletions → Holds l.self.set op) (take l.j (waiting_in l.held));
  heard : IsHeard l.fn.self.set l.self.set (g.L.Listener.told l.fn.listener) (g.L.Listener.told l.listener) (g.L.Listener.capacity l.fn.listener) (g.L.Listener.capacity l.listener);
}
