-- No control has been passed.
use Rattle.std.proofs.Common.{◌≤◌}
use Rattle.bidi_explicit.specs.Uniform.{is_control}
use Rattle.bidi_explicit.proofs.Passed.{ArePassed}
use Rattle.bidi_explicit.proofs.controls.control_end.Given as goal

abbrev pub invariant-loop-place : goal.invariant-loop-place
invariant-loop-place l = record {
  within : l.place ≤ l.fn.end;
  passed : ArePassed is_control l.classes l.place l.fn.end;
}

abbrev pub decreases-loop-place : goal.decreases-loop-place
decreases-loop-place l = l.place
