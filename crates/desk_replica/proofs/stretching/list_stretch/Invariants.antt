-- What is listed, and what is left of the parts, is what is to be listed.
use Rattle.std.proofs.Common.{◌≡◌, ◌+◌, ◌++◌, take, drop}
use Rattle.std.specs.Prelude.{map as each, vec_len, vec_capacity}
use Rattle.std.specs.List.{flat_map}
use Rattle.bg_types.specs.declared.op.OpView.TheVariants.{Erase}
use Rattle.rga_tree.specs.Row.{shown_ids}
use Rattle.desk_replica.specs.Replacement.{deletions}
use Rattle.desk_replica.proofs.stretching.list_stretch.Given as goal

abbrev pub invariant-loop-p : goal.invariant-loop-p
invariant-loop-p g l = record {
  made : l.made.items ++ each Erase (take l.left (shown_ids (flat_map (λ part. part) (drop l.p (g.S.Sequence.parts l.seq))))) ≡ l.fn.made.items ++ deletions (g.S.Sequence.content l.fn.seq) l.from l.count;
  len : vec_len l.made + l.left ≡ vec_len l.fn.made + l.count;
  capacity : vec_capacity l.made ≡ vec_capacity l.fn.made;
}
