-- What stays true in the loop of `read_frames`.
use Rattle.std.proofs.Common.{◌≡◌, ◌+◌, ◌≤◌, ◌++◌, List, length, take}
use Rattle.std.specs.List.{AllByRecursion}
use Rattle.bg_types.specs.WellFormed.{IsWellFormed}
use Rattle.bg_types.specs.declared.op.OpView.{OpView}
use Rattle.op_codec.specs.Feed.{IsBehind, MovesOn, added}
use Rattle.op_codec.proofs.stream.read_frames.Given as goal

abbrev pub invariant-loop-read : goal.invariant-loop-read
invariant-loop-read l = record {
  moved : (before : List OpView) → AllByRecursion IsWellFormed before → IsBehind l.fn.at before → MovesOn l.fn.at l.at before (before ++ added l.fn.ops.items l.ops.items) l.bytes l.rest;
  few : l.at.frames + length l.rest ≤ l.fn.at.frames + length l.bytes;
  grown : take (length l.fn.ops.items) l.ops.items ≡ l.fn.ops.items;
}

abbrev pub decreases-loop-read : goal.decreases-loop-read
decreases-loop-read l = length l.rest
