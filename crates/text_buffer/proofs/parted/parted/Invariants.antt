-- What is left of the text.
use Rattle.std.proofs.Common.{◌≡◌, ◌-◌, ◌≤◌, length, drop}
use Rattle.std.specs.Str.{IsUtf8}
use Rattle.paragraphs.specs.Text.{code_points}
use Rattle.text_buffer.proofs.parted.parted.Given as goal

abbrev pub invariant-loop-left : goal.invariant-loop-left
invariant-loop-left l = record {
  few : l.left ≤ l.offset;
  len : length l.rest ≤ length l.text;
  end : l.rest ≡ drop (length l.text - length l.rest) l.text;
  utf8 : IsUtf8 l.rest;
  points : code_points l.rest ≡ drop (l.offset - l.left) (code_points l.text);
}

abbrev pub decreases-loop-left : goal.decreases-loop-left
decreases-loop-left l = l.left
