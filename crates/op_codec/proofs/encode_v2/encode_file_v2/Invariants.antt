-- What stays true in the loop of `encode_file_v2`.
use Rattle.std.proofs.Common.{◌≡◌, ◌≤◌, ◌++◌, length}
use Rattle.std.specs.List.{AllByRecursion}
use Rattle.std.specs.Vec.{vec_capacity}
use Rattle.bg_types.specs.WellFormed.{IsWellFormed}
use Rattle.op_codec.specs.declared.position.Version.TheVariants.{Two}
use Rattle.op_codec.specs.Spelling.{spelling_in}
use Rattle.op_codec.proofs.Written.{gathered_bytes}
use Rattle.op_codec.proofs.encode_v2.encode_file_v2.Given as goal

abbrev pub invariant-loop-next : goal.invariant-loop-next
invariant-loop-next l = record {
  written : l.file.items ++ gathered_bytes l.rest ≡ spelling_in Two l.ops;
  room : length (spelling_in Two l.ops) ≤ vec_capacity l.file;
  well_formed : AllByRecursion IsWellFormed l.rest → AllByRecursion IsWellFormed l.ops;
}

abbrev pub decreases-loop-next : goal.decreases-loop-next
decreases-loop-next l = length l.rest
