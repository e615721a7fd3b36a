-- The code points so far, and those that are left, are all, and there is room for them.
use Rattle.std.proofs.Common.{◌≡◌, ◌≤◌, ◌+◌, ◌++◌, length, vec_len, vec_capacity}
use Rattle.std.specs.Str.{IsUtf8}
use Rattle.std.specs.Str.Iter.{chars_rest}
use Rattle.paragraphs.specs.Text.{code_points}
use Rattle.paragraphs.proofs.points.code_points_into.Given as goal

abbrev pub invariant-loop-c : goal.invariant-loop-c
invariant-loop-c l = record {
  utf8 : IsUtf8 (chars_rest l.chars);
  so_far : l.own.items ++ code_points (chars_rest l.chars) ≡ code_points l.text;
  room : vec_len l.own + length (chars_rest l.chars) ≤ vec_capacity l.own;
}
