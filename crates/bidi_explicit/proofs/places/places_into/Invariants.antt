-- The pass has come to the place.
use Rattle.std.proofs.Common.{◌≡◌, ◌≤◌, ◌-◌, length, take}
use Rattle.bidi_explicit.proofs.Passing.{IsPassedTo}
use Rattle.bidi_explicit.proofs.places.places_into.Given as goal

abbrev pub invariant-loop-i : goal.invariant-loop-i
invariant-loop-i l = record {
  long : length l.kept ≡ length l.classes;
  within : l.i ≤ length l.classes;
  passed : IsPassedTo l.level l.classes l.i l.stack (take l.i l.kept);
}

abbrev pub decreases-loop-i : goal.decreases-loop-i
decreases-loop-i l = length l.classes - l.i
