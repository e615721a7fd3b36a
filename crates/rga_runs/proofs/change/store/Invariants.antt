-- What is left is stored next.
use Rattle.std.proofs.Common.{◌≡◌, ◌≤◌, ◌+◌, ◌++◌, length, take, drop}
use Rattle.std.specs.Prelude.{vec_len, vec_capacity}
use Rattle.std.specs.Str.{chars, IsUtf8}
use Rattle.std.specs.Str.Iter.{chars_rest}
use Rattle.rga_runs.proofs.change.store.Given as goal

abbrev pub invariant-loop-stored : goal.invariant-loop-stored
invariant-loop-stored l = record {
  utf8 : IsUtf8 (chars_rest l.left);
  within : l.stored ≤ length (chars (chars_rest l.fn.left));
  left_is : chars (chars_rest l.left) ≡ drop l.stored (chars (chars_rest l.fn.left));
  items : l.characters.items ≡ l.fn.characters.items ++ take l.stored (chars (chars_rest l.fn.left));
  len : vec_len l.characters ≡ vec_len l.fn.characters + l.stored;
  capacity : vec_capacity l.characters ≡ vec_capacity l.fn.characters;
}
