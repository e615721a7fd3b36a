-- What is left is listed next.
use Rattle.std.proofs.Common.{◌≤◌, ◌+◌, length}
use Rattle.std.specs.Prelude.{vec_len, vec_capacity}
use Rattle.std.specs.Str.{chars, IsUtf8}
use Rattle.std.specs.Str.Iter.{chars_rest}
use Rattle.desk_replica.proofs.Stretches.{IsUnderWay}
use Rattle.desk_replica.proofs.stretching.list_run.Given as goal

abbrev pub invariant-loop-ch : goal.invariant-loop-ch
invariant-loop-ch l = record {
  utf8 : IsUtf8 (chars_rest l.left);
  under_way : IsUnderWay l.first (record { counter = l.counter + 1; site = l.first.site }) l.front l.parent l.fn.made.items l.made.items (chars l.characters) (chars (chars_rest l.left));
  listed : vec_len l.made + length (chars (chars_rest l.left)) ≤ vec_capacity l.made;
}
