-- The row has come to the place.
use Rattle.std.proofs.Common.{◌≡◌, ◌++◌, length, map, take}
use Rattle.std.specs.Prelude.{slice_range}
use Rattle.bidi_explicit.specs.Levels.{kept_under}
use Rattle.bidi_explicit.proofs.places.put_under.Given as goal

abbrev pub invariant-loop-i : goal.invariant-loop-i
invariant-loop-i l = record {
  long : length l.places ≡ length l.classes;
  put : take l.i l.places ≡ take l.start l.fn.places ++ map (kept_under l.direction) (slice_range l.classes l.start l.i);
}
