-- Nothing is kept from the place on.
use Rattle.std.proofs.Common.{◌≡◌}
use Rattle.bidi_explicit.specs.Sequences.{kept_before}
use Rattle.bidi_explicit.proofs.sequences.kept_before.Given as goal

abbrev pub invariant-loop-i : goal.invariant-loop-i
invariant-loop-i l = kept_before l.places l.i ≡ kept_before l.places l.place
