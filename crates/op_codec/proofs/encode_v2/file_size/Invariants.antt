-- What stays true in the loop of `file_size` in version 2.
use Rattle.std.proofs.Common.{◌≡◌, ◌≤◌, ◌-◌, ◌^◌, length}
use Rattle.std.specs.Prelude.{min}
use Rattle.op_codec.specs.declared.position.Version.TheVariants.{Two}
use Rattle.op_codec.specs.Spelling.{spelling_in}
use Rattle.op_codec.proofs.Written.{gathered_bytes}
use Rattle.op_codec.proofs.encode_v2.file_size.Given as goal

abbrev pub invariant-loop-next : goal.invariant-loop-next
invariant-loop-next l = record {
  counted : l.size ≡ min (length (spelling_in Two l.ops) - length (gathered_bytes l.rest)) (2 ^ 64 - 1);
  within : length (gathered_bytes l.rest) ≤ length (spelling_in Two l.ops);
}

abbrev pub decreases-loop-next : goal.decreases-loop-next
decreases-loop-next l = length l.rest
