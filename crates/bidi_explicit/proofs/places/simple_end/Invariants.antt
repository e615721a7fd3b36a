-- All that have been passed are simple.
use Rattle.std.proofs.Common.{◌≤◌, ◌-◌, length}
use Rattle.bidi_explicit.specs.Uniform.{is_apart}
use Rattle.bidi_explicit.proofs.Passed.{ArePassed}
use Rattle.bidi_explicit.proofs.places.simple_end.Given as goal

abbrev pub invariant-loop-end : goal.invariant-loop-end
invariant-loop-end l = record {
  from : l.start ≤ l.end;
  within : l.end ≤ length l.classes;
  simple : ArePassed is_apart l.classes l.start l.end;
}

abbrev pub decreases-loop-end : goal.decreases-loop-end
decreases-loop-end l = length l.classes - l.end
