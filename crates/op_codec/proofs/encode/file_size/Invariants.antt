-- What stays true in the loop of `file_size`.
use Rattle.std.proofs.Common.{◌≡◌, ◌-◌, ◌^◌, length, take}
use Rattle.std.specs.Prelude.{min}
use Rattle.op_codec.specs.Spelling.{spelling}
use Rattle.op_codec.proofs.encode.file_size.Given as goal

abbrev pub invariant-loop-op : goal.invariant-loop-op
invariant-loop-op l = l.size ≡ min (length (spelling (take l.op-index l.ops))) (2 ^ 64 - 1)
