-- The run reaches up to the place.
use Rattle.bidi_explicit.specs.LevelRuns.{IsLevelRun}
use Rattle.bidi_explicit.proofs.level_run.run_end.Given as goal

abbrev pub invariant-loop-end : goal.invariant-loop-end
invariant-loop-end l = IsLevelRun l.places l.start l.end
