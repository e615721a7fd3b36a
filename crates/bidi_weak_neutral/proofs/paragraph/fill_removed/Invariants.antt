-- What stays true in the loop of `fill_removed`.
use Rattle.std.proofs.Common.{◌≡◌, ◌++◌, take, drop}
use Rattle.bidi_weak_neutral.specs.Levels.{kept_levels, filled_levels}
use Rattle.bidi_weak_neutral.proofs.Scan.{scan}
use Rattle.bidi_weak_neutral.proofs.Filling.{fill_at, fill_step}
use Rattle.bidi_weak_neutral.proofs.paragraph.fill_removed.Given as goal

abbrev pub invariant-loop-i : goal.invariant-loop-i
invariant-loop-i l =
    take l.i l.levels ++ scan fill_at fill_step l.before (kept_levels (drop l.i l.places) (drop l.i l.levels))
    ≡ filled_levels l.fn.paragraph_level (kept_levels l.places l.initial.levels)
