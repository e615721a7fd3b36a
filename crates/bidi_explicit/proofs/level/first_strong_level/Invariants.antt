-- The scan has come to what is left of the text.
use Rattle.std.specs.Str.Iter.{chars_rest}
use Rattle.bidi_explicit.proofs.Strongest.{IsScanned}
use Rattle.bidi_explicit.proofs.level.first_strong_level.Given as goal

abbrev pub invariant-loop-c : goal.invariant-loop-c
invariant-loop-c l = IsScanned l.tables l.text (chars_rest l.chars) l.depth
