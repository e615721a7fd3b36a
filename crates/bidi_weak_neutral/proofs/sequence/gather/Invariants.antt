-- What stands at the places of the runs so far is gathered.
use Rattle.std.proofs.Common.{◌≡◌, map, take, slice_index}
use Rattle.bidi_explicit.specs.LevelRuns.{run_places}
use Rattle.bidi_explicit.specs.Sequences.{kept_at}
use Rattle.bidi_weak_neutral.specs.Levels.{type_of}
use Rattle.bidi_weak_neutral.proofs.sequence.gather.Given as goal

abbrev pub invariant-loop-run : goal.invariant-loop-run
invariant-loop-run l = record {
  characters : l.characters.items ≡ map (slice_index l.of_paragraph) (run_places (take l.run-index l.runs));
  types : l.types.items ≡ map (λ i. type_of (kept_at l.kept i)) (run_places (take l.run-index l.runs));
}
