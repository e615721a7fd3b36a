-- What stays true in the loop of `write_characters`.
use Rattle.std.proofs.Common.{◌≡◌, ◌≤◌, ◌++◌, take}
use Rattle.std.specs.List.{flat_map}
use Rattle.std.specs.Vec.{vec_capacity}
use Rattle.byteorder.specs.Endian.{big_bytes}
use Rattle.op_codec.specs.Gathering.{inserted_characters}
use Rattle.op_codec.proofs.encode_v2.write_characters.Given as goal

abbrev pub invariant-loop-op : goal.invariant-loop-op
invariant-loop-op l = record {
  written : l.out.items ≡ l.fn.out.items ++ flat_map (big_bytes 4) (inserted_characters (take l.op-index l.ops));
  capacity : vec_capacity l.fn.out ≤ vec_capacity l.out;
}
