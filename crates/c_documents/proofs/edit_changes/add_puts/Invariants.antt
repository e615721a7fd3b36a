-- The characters that are left are put next.
use Rattle.std.proofs.Common.{◌≡◌, ◌≤◌, ◌<◌, ◌+◌, ◌^◌, ◌++◌, length}
use Rattle.std.specs.Prelude.{vec_len, vec_capacity}
use Rattle.std.specs.Str.{chars, IsUtf8}
use Rattle.std.specs.Str.Iter.{chars_rest}
use Rattle.text_buffer.specs.Edits.{puts_at}
use Rattle.c_documents.proofs.edit_changes.add_puts.Given as goal

abbrev pub invariant-loop-ch : goal.invariant-loop-ch
invariant-loop-ch l = record {
  utf8 : IsUtf8 (chars_rest l.left);
  items : l.told.items ++ puts_at l.place (chars (chars_rest l.left)) ≡ l.fn.told.items ++ puts_at l.fn.place (chars l.text);
  room : vec_len l.told + length (chars (chars_rest l.left)) ≤ vec_capacity l.told;
  end : l.place + length (chars (chars_rest l.left)) < 2 ^ 64;
}
