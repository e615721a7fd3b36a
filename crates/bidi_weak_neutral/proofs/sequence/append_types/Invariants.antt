-- The types so far are appended, and there is room for the rest.
use Rattle.std.proofs.Common.{◌≡◌, ◌≤◌, ◌+◌, ◌++◌, map, take, length, vec_len, vec_capacity}
use Rattle.bidi_weak_neutral.specs.Levels.{type_of}
use Rattle.bidi_weak_neutral.proofs.sequence.append_types.Given as goal

abbrev pub invariant-loop-place : goal.invariant-loop-place
invariant-loop-place l = record {
  made : l.own.items ≡ l.fn.types.items ++ map type_of (take l.place-index l.kept);
  count : vec_len l.own ≡ vec_len l.fn.types + l.place-index;
  room : vec_len l.fn.types + length l.kept ≤ vec_capacity l.own;
}
