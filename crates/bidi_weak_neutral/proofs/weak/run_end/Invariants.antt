-- What stays true in the loop of `run_end`.
use Rattle.std.proofs.Common.{ℕ, ◌≡◌, ◌<◌, ◌≤◌, ◌-◌, drop, length, get_or, false}
use Rattle.bg_types.specs.declared.class.Bidi.TheVariants.{On}
use Rattle.bidi_weak_neutral.specs.Context.{nearest}
use Rattle.bidi_weak_neutral.specs.Pass.{is_past_terminators}
use Rattle.bidi_weak_neutral.proofs.weak.run_end.Given as goal

abbrev pub invariant-loop-end : goal.invariant-loop-end
invariant-loop-end l = record {
  from : l.start ≤ l.end;
  within : l.end ≤ length l.types;
  run : (k : ℕ) → l.start ≤ k → k < l.end → is_past_terminators (get_or l.types k On) ≡ false;
  ahead : nearest is_past_terminators On (drop l.end l.types) ≡ nearest is_past_terminators On (drop l.start l.types);
}

abbrev pub decreases-loop-end : goal.decreases-loop-end
decreases-loop-end l = length l.types - l.end
