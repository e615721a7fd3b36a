-- What stays true in the loop of `blanks_before`.
use Rattle.std.proofs.Common.{◌≡◌, ℕ, ◌<◌, true, get_or}
use Rattle.ucd_files.specs.Line.{is_among}
use Rattle.ucd_files.proofs.line.blanks_before.Given as goal

abbrev pub invariant-loop-i : goal.invariant-loop-i
invariant-loop-i l = (k : ℕ) → k < l.i → is_among l.blanks (get_or l.bytes k 0) ≡ true
