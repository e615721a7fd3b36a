-- What stays true in the loop of `put_levels`.
use Rattle.std.proofs.Common.{◌≡◌, ◌<◌, ◌≤◌, ◌-◌, ◌++◌, length, take, drop, get_or}
use Rattle.std.specs.Prelude.{not}
use Rattle.bidi_weak_neutral.specs.Classes.{is_neutral}
use Rattle.bidi_weak_neutral.specs.Neutral.{implicit_level}
use Rattle.bidi_weak_neutral.specs.Pass.{neutral_type}
use Rattle.bidi_weak_neutral.proofs.Runs.{IsRun}
use Rattle.bidi_weak_neutral.proofs.NeutralScans.{levels_from}
use Rattle.bidi_weak_neutral.proofs.neutral.put_levels.Given as goal

abbrev pub invariant-loop-k : goal.invariant-loop-k
invariant-loop-k l = record {
  so_far : take l.k l.levels ++ levels_from l.level l.eos l.before (drop l.k l.types) ≡ levels_from l.level l.eos l.fn.sos l.types;
  within : l.k ≤ length l.types;
  run : l.k < l.end → IsRun (λ x. not (is_neutral x)) l.eos l.types l.k l.end;
  neutral : l.k < l.end → l.neutral ≡ implicit_level l.level (neutral_type l.level l.before (get_or l.types l.end l.eos));
}

abbrev pub decreases-loop-k : goal.decreases-loop-k
decreases-loop-k l = length l.types - l.k
