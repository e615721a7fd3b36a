-- What is listed, and what is left of the row, is what is to be listed of all of it.
use Rattle.std.proofs.Common.{◌≡◌, ◌+◌, ◌-◌, ◌++◌, take, drop, length}
use Rattle.std.specs.Prelude.{map as each, vec_len, vec_capacity}
use Rattle.bg_types.specs.declared.op.OpView.TheVariants.{Erase}
use Rattle.rga_tree.specs.Row.{shown_ids}
use Rattle.desk_replica.proofs.stretching.list_row.Given as goal

abbrev pub invariant-loop-e : goal.invariant-loop-e
invariant-loop-e l = record {
  made : l.made.items ++ each Erase (take l.left (shown_ids (drop l.e-index l.row))) ≡ l.fn.made.items ++ each Erase (take l.count (shown_ids l.row));
  left : l.left - length (shown_ids (drop l.e-index l.row)) ≡ l.count - length (shown_ids l.row);
  len : vec_len l.made + l.left ≡ vec_len l.fn.made + l.count;
  capacity : vec_capacity l.made ≡ vec_capacity l.fn.made;
}
