-- The levels of the runs so far are put.
use Rattle.std.proofs.Common.{◌≡◌, length, drop}
use Rattle.bidi_explicit.specs.LevelRuns.{run_places}
use Rattle.bidi_weak_neutral.specs.Levels.{levels_at}
use Rattle.bidi_weak_neutral.proofs.sequence.put_at_runs.Given as goal

abbrev pub invariant-loop-run : goal.invariant-loop-run
invariant-loop-run l = record {
  so_far : levels_at l.levels (run_places (drop l.run-index l.runs)) l.rest ≡ levels_at l.initial.levels (run_places l.runs) l.own;
  long : length l.rest ≡ length (run_places (drop l.run-index l.runs));
}
