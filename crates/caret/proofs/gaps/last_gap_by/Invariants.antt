-- What was found so far is the last gap before this one whose column isn't greater, else gap 0.
use Rattle.std.proofs.Common.{◌≡◌, ◌≤◌, length}
use Rattle.std.specs.Prelude.{nat_le}
use Rattle.caret.specs.Gaps.{gap_column}
use Rattle.caret.specs.Lists.{last_below}
use Rattle.caret.proofs.gaps.last_gap_by.Given as goal

abbrev pub invariant-loop-entry : goal.invariant-loop-entry
invariant-loop-entry l = record {
  counted : l.gap ≡ length l.yielded;
  last : l.last ≡ last_below (λ gap. nat_le (gap_column l.row gap) l.column) l.gap;
  within : l.last ≤ l.gap;
}
