-- What is left is hidden next.
use Rattle.std.proofs.Common.{◌≡◌, drop}
use Rattle.bg_types.specs.OperationSet.{OperationSet}
use Rattle.desk_replica.specs.Merging.{with_operations}
use Rattle.desk_replica.proofs.stretching.hide_targets.Given as goal

abbrev pub invariant-loop-op : goal.invariant-loop-op
invariant-loop-op g l =
    let s : OperationSet = g.S.Sequence.content l.fn.seq in
    let t : OperationSet = g.S.Sequence.content l.seq in
    record {
      content : with_operations t (drop l.op-index l.deletions) ≡ with_operations s l.deletions;
      insertions : t.ins ≡ s.ins;
      room : g.S.Sequence.free l.seq ≡ g.S.Sequence.free l.fn.seq;
    }
