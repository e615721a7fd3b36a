-- What stays true in the loop of `resolve_weak`.
use Rattle.std.proofs.Common.{◌≡◌, ◌<◌, ◌≤◌, ◌-◌, ◌++◌, length, take, drop}
use Rattle.bg_types.specs.declared.class.Bidi.TheVariants.{On}
use Rattle.bidi_weak_neutral.specs.Weak.{weak_types}
use Rattle.bidi_weak_neutral.specs.Pass.{is_past_terminators}
use Rattle.bidi_weak_neutral.proofs.Runs.{IsRun}
use Rattle.bidi_weak_neutral.proofs.WeakPass.{weak_from}
use Rattle.bidi_weak_neutral.proofs.weak.resolve_weak.Given as goal

abbrev pub invariant-loop-place : goal.invariant-loop-place
invariant-loop-place l = record {
  so_far : take l.place l.types ++ weak_from l.base l.strong l.last l.beside (drop l.place l.before) ≡ weak_types l.fn.sos l.before;
  within : l.place ≤ length l.before;
  run : l.place < l.end → IsRun is_past_terminators On l.before l.place l.end;
}

abbrev pub decreases-loop-place : goal.decreases-loop-place
decreases-loop-place l = length l.before - l.place
