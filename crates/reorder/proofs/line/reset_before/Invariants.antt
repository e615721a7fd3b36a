-- What stands behind the start may be reset, and has been.
use Rattle.std.proofs.Common.{ℕ, ◌≡◌, ◌<◌, ◌≤◌, ◌-◌, ◌++◌, length, get_or, take, drop, replicate, true}
use Rattle.bg_types.specs.declared.class.Bidi.TheVariants.{L}
use Rattle.reorder.specs.LineLevels.{may_be_reset}
use Rattle.reorder.proofs.line.reset_before.Given as goal

abbrev pub invariant-loop-start : goal.invariant-loop-start
invariant-loop-start l = record {
  long : length l.after ≡ length l.classes;
  within : l.start ≤ l.fn.end;
  reset : (k : ℕ) → l.start ≤ k → k < l.fn.end → may_be_reset (get_or l.classes k L) ≡ true;
  put : l.after ≡ take l.start l.fn.after ++ replicate (l.fn.end - l.start) l.para_level ++ drop l.fn.end l.fn.after;
}

abbrev pub decreases-loop-start : goal.decreases-loop-start
decreases-loop-start l = l.start
