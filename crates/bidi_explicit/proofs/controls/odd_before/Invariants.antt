-- No strong one has been passed.
use Rattle.std.proofs.Common.{◌≡◌, drop}
use Rattle.bidi_explicit.specs.Controls.{odd_before}
use Rattle.bidi_explicit.proofs.controls.odd_before.Given as goal

abbrev pub invariant-loop-class : goal.invariant-loop-class
invariant-loop-class l = odd_before l.row l.odd ≡ odd_before (drop l.class-index l.row) l.odd
