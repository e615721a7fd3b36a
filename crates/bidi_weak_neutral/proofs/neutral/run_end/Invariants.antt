-- What stays true in the loop of `run_end`.
use Rattle.std.proofs.Common.{ℕ, ◌≡◌, ◌<◌, ◌≤◌, ◌-◌, drop, length, get_or, true}
use Rattle.std.specs.Prelude.{not}
use Rattle.bg_types.specs.declared.class.Bidi.{Bidi}
use Rattle.bg_types.specs.declared.class.Bidi.TheVariants.{L}
use Rattle.bidi_weak_neutral.specs.Classes.{is_neutral}
use Rattle.bidi_weak_neutral.specs.Context.{nearest}
use Rattle.bidi_weak_neutral.proofs.neutral.run_end.Given as goal

abbrev pub invariant-loop-end : goal.invariant-loop-end
invariant-loop-end l = record {
  from : l.start ≤ l.end;
  within : l.end ≤ length l.types;
  run : (k : ℕ) → l.start ≤ k → k < l.end → is_neutral (get_or l.types k L) ≡ true;
  ahead : (d : Bidi) → nearest (λ x. not (is_neutral x)) d (drop l.end l.types) ≡ nearest (λ x. not (is_neutral x)) d (drop l.start l.types);
}

abbrev pub decreases-loop-end : goal.decreases-loop-end
decreases-loop-end l = length l.types - l.end
