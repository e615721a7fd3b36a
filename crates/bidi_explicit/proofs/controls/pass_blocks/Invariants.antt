-- No control has been passed.
use Rattle.std.proofs.Common.{◌≤◌}
use Rattle.bidi_explicit.specs.Uniform.{is_control}
use Rattle.bidi_explicit.proofs.Passed.{ArePassed}
use Rattle.bidi_explicit.proofs.controls.pass_blocks.Given as goal

abbrev pub invariant-loop-start : goal.invariant-loop-start
invariant-loop-start l = record {
  within : l.start ≤ l.fn.end;
  passed : ArePassed is_control l.classes l.start l.fn.end;
}

abbrev pub decreases-loop-start : goal.decreases-loop-start
decreases-loop-start l = l.start
