-- What stays true in the loop of `place_ready`.
use Rattle.std.proofs.Common.{◌≡◌, ◌≤◌, ◌+◌, ℕ, List, length}
use Rattle.std.specs.FinMap as map
use Rattle.bg_types.specs.OperationSet.{AllWellFormed}
use Rattle.bg_types.specs.declared.op.OpView.{OpView}
use Rattle.pending_ops.specs.Waiting.{is_ready}
use Rattle.pending_ops.specs.Releasing.{PlacesEach}
use Rattle.desk_replica.specs.Placement.{IsParted, IsPaid, whole}
use Rattle.desk_replica.specs.Reply.{attached_count}
use Rattle.desk_replica.specs.Listening.{Tells, told_count}
use Rattle.desk_replica.specs.Telling.{ShowsAll}
use Rattle.desk_replica.proofs.placing.place_ready.Given as goal

abbrev pub invariant-loop-op : goal.invariant-loop-op
invariant-loop-op g l = record {
  parted : IsParted (g.S.Sequence.content l.seq) l.held.held (is_ready l.held);
  formed : AllWellFormed l.held.held;
  same : whole (g.S.Sequence.content l.seq) l.held ≡ whole (g.S.Sequence.content l.fn.seq) l.fn.held;
  grows : attached_count (g.S.Sequence.content l.fn.seq) ≤ attached_count (g.S.Sequence.content l.seq);
  room : map.len l.held.held.ins ≤ g.S.Sequence.free l.seq;
  paid : (n : ℕ) → IsPaid (g.S.Sequence.free l.fn.seq) l.fn.held n → IsPaid (g.S.Sequence.free l.seq) l.held n;
  placed : (ops : List OpView) × PlacesEach l.fn.held ops l.held × (attached_count (g.S.Sequence.content l.seq) ≡ attached_count (g.S.Sequence.content l.fn.seq) + length ops);
  shows : ShowsAll (g.S.Sequence.content l.fn.seq) (g.S.Sequence.content l.seq);
  capacity : g.L.Listener.capacity l.fn.listener ≤ g.L.Listener.capacity l.listener;
  told : Tells (g.S.Sequence.content l.fn.seq) (g.S.Sequence.content l.seq) (g.L.Listener.told l.fn.listener) (g.L.Listener.told l.listener);
  few : told_count (g.L.Listener.told l.listener) + attached_count (g.S.Sequence.content l.fn.seq) ≤ told_count (g.L.Listener.told l.fn.listener) + attached_count (g.S.Sequence.content l.seq);
}

abbrev pub decreases-loop-op : goal.decreases-loop-op
decreases-loop-op g l = g.S.Sequence.free l.seq
