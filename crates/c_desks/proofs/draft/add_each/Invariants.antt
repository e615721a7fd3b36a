-- The message so far is the old one with the frames of the operations that were added.
use Rattle.std.proofs.Common.{◌≡◌, ◌≤◌, ◌+◌, ◌-◌, ◌*◌, ◌++◌, length, take}
use Rattle.std.specs.Prelude.{vec_len}
use Rattle.std.specs.Vec.{vec_capacity}
use Rattle.std.specs.List.{flat_map}
use Rattle.op_codec.specs.Spelling.{frame}
use Rattle.c_desks.proofs.draft.add_each.Given as goal

abbrev pub invariant-loop-op : goal.invariant-loop-op
invariant-loop-op l = record {
  items : l.message.items ≡ l.fn.message.items ++ flat_map frame (take l.op-index l.ops);
  room : vec_len l.message + 19 * (length l.ops - l.op-index) ≤ vec_capacity l.message;
}
