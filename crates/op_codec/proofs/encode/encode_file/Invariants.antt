-- What stays true in the loop of `encode_file`.
use Rattle.std.proofs.Common.{◌≡◌, ◌≤◌, length, take}
use Rattle.std.specs.List.{AllByRecursion}
use Rattle.std.specs.Vec.{vec_capacity}
use Rattle.bg_types.specs.WellFormed.{IsWellFormed}
use Rattle.op_codec.specs.Spelling.{spelling}
use Rattle.op_codec.proofs.encode.encode_file.Given as goal

abbrev pub invariant-loop-op : goal.invariant-loop-op
invariant-loop-op l = record {
  written : l.file.items ≡ spelling (take l.op-index l.ops);
  well_formed : AllByRecursion IsWellFormed (take l.op-index l.ops);
  room : length (spelling l.ops) ≤ vec_capacity l.file;
}
