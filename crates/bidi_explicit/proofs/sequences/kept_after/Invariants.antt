-- Nothing is kept up to the place.
use Rattle.std.proofs.Common.{◌≡◌, drop}
use Rattle.bidi_explicit.specs.Sequences.{kept_from, kept_after}
use Rattle.bidi_explicit.proofs.sequences.kept_after.Given as goal

abbrev pub invariant-loop-i : goal.invariant-loop-i
invariant-loop-i l = kept_from l.i (drop l.i l.places) ≡ kept_after l.places l.place
