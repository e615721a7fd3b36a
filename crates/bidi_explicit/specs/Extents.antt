-- Sequences as parts of one list of level runs.
use Rattle.std.specs.Prelude.{ℕ, ◌≡◌, ◌≤◌, Bool, true, Option, Some, List, map, length, slice_range}
use Rattle.std.specs.List.{All}
use Rattle.bidi_explicit.specs.declared.embedded.Extent.{Extent}
use Rattle.bidi_explicit.specs.declared.kept.Kept.{Kept}
use Rattle.bidi_explicit.specs.declared.level_run.LevelRun.{LevelRun}
use Rattle.bidi_explicit.specs.Sequences.{RunSequence, is_kept, last_or, level_or, sos_of, eos_of}
use Rattle.bidi_explicit.specs.LevelRuns.{HasPlace, run_places}

abbrev pub extent_sequence : List LevelRun → Extent → RunSequence
extent_sequence runs e = record { places = run_places (slice_range runs e.start e.end); level = e.level; sos = e.sos; eos = e.eos }

abbrev pub extent_sequences : List LevelRun → List Extent → List RunSequence
extent_sequences runs extents = map (extent_sequence runs) extents

-- the extent of a sequence of these places, in a paragraph of level p, whose level runs stand from `start` on, up to `end`
abbrev pub extent_of : ℕ → (ℕ → Bool) → List (Option Kept) → (start end first : ℕ) → List ℕ → Extent
extent_of p unmatched places start end first chained =
    let last = last_or first chained in
    record {
      start = start;
      end = end;
      level = level_or p places (Some first);
      sos = sos_of p places first;
      eos = eos_of p (unmatched last) places last;
    }

abbrev pub IsPart : List LevelRun → Extent → Type 0
IsPart runs e = (e.start ≤ e.end) × (e.end ≤ length runs)

abbrev pub IsKept : List (Option Kept) → ℕ → Type 0
IsKept places i = is_kept places i ≡ true

-- each sequence is a part of the runs without a gap, which have only kept places, and each of them some
pub record IsWithin (places : List (Option Kept)) (runs : List LevelRun) (extents : List Extent) : Type 0 where
  pub stretches : All (IsPart runs) extents
  pub some : All HasPlace runs
  pub kept : All (IsKept places) (run_places runs)
