-- Level runs: neighbouring places at one level (UAX #9, BD7), and what is known of those that sequences have already.
use Rattle.std.specs.Prelude.{ℕ, ◌+◌, ◌-◌, ◌==◌, ◌<◌, ◌≤◌, ◌≡◌, not, Bool, true, false, Option, List, length, slice_index_or}
use Rattle.std.specs.List.{All, flat_map, list_any, range_with_len}
use Rattle.bidi_explicit.specs.declared.kept.Kept.{Kept}
use Rattle.bidi_explicit.specs.declared.level_run.LevelRun.{LevelRun}
use Rattle.bidi_explicit.specs.Sequences.{kept_at, same_level}

-- the places from `start` on, up to `end`
abbrev pub places_between : (start end : ℕ) → List ℕ
places_between start end = range_with_len start (end - start)

abbrev pub own_places : LevelRun → List ℕ
own_places r = places_between r.start r.end

-- the places of runs, one run after the other
abbrev pub run_places : List LevelRun → List ℕ
run_places runs = flat_map own_places runs

abbrev pub HasPlace : LevelRun → Type 0
HasPlace r = r.start < r.end

-- the places after `start`, up to `end`, are kept at its level
abbrev pub IsLevelRun : List (Option Kept) → (start end : ℕ) → Type 0
IsLevelRun places start end = (k : ℕ) → start < k → k < end → same_level (kept_at places start) (kept_at places k) ≡ true

-- no level run goes on to this place from the one before it
abbrev pub IsEdge : List (Option Kept) → ℕ → Type 0
IsEdge places i = (before : ℕ) → before + 1 ≡ i → same_level (kept_at places before) (kept_at places i) ≡ false

-- a run of a place and all that follow it directly, kept at its level
pub record IsRun (places : List (Option Kept)) (r : LevelRun) : Type 0 where
  pub some : HasPlace r
  pub within : r.end ≤ length places
  pub level : IsLevelRun places r.start r.end
  pub edge : IsEdge places r.end

-- one of these runs begins at a place
abbrev pub has_start : List LevelRun → ℕ → Bool
has_start runs i = list_any (λ (r : LevelRun). i == r.start) runs

-- these are level runs, and the ends say of each place where the one that begins there ends, or 0 if none does
pub record AreNoted (places : List (Option Kept)) (runs : List LevelRun) (ends : List ℕ) : Type 0 where
  pub whole : All (IsRun places) runs
  pub begun : (i : ℕ) → i < length ends → (slice_index_or ends i 0 == 0) ≡ not (has_start runs i)
  pub noted : (i : ℕ) → 0 < slice_index_or ends i 0 → IsRun places (record { start = i; end = slice_index_or ends i 0 })
