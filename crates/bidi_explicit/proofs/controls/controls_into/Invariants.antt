-- The pass has come down to the end.
use Rattle.std.proofs.Common.{◌≤◌, length}
use Rattle.bidi_explicit.proofs.Matching.{IsMatchedFrom}
use Rattle.bidi_explicit.proofs.controls.controls_into.Given as goal

abbrev pub invariant-loop-end : goal.invariant-loop-end
invariant-loop-end l = record {
  within : l.end ≤ length l.classes;
  matched : IsMatchedFrom l.classes l.end l.matcher l.controls.items;
}

abbrev pub decreases-loop-end : goal.decreases-loop-end
decreases-loop-end l = l.end
