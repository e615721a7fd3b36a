-- Runs of clusters: what a row stores its entries as.
use Rattle.std.specs.Prelude.{◌≡◌, ℕ, ◌+◌, ◌-◌, ◌*◌, ◌^◌, ◌<◌, ◌≤◌, List, [], ◌∷◌, ◌++◌, map, length, sum_by, if◌then◌else◌}
use Rattle.std.specs.List.{All, range_with_len}
use Rattle.reorder.specs.VisualList.{is_odd}
use Rattle.paragraphs.specs.declared.span.Span.{Span}
use Rattle.cell_grid.specs.declared.cluster_run.ClusterRun.{ClusterRun}
use Rattle.cell_grid.specs.declared.entry.Entry.{Entry}
use Rattle.cell_grid.specs.Cells.{StandWithin}
use Rattle.cell_grid.specs.KeptSpans.{span_kept, kept_later}
use Rattle.cell_grid.specs.Shifting.{StaysInReach, MayShift}
use Rattle.cell_grid.specs.Spans.{shifted_span}

-- the bytes and the code points of a span
abbrev pub byte_count : Span → ℕ
byte_count s = s.end_byte - s.first_byte

abbrev pub point_count : Span → ℕ
point_count s = s.end_place - s.first_place

-- the span behind so many spans like this one, of which it is the first
abbrev pub span_after : (count : ℕ) → Span → Span
span_after count s = shifted_span (count * byte_count s) (count * point_count s) s

-- where its first cluster in the text stands
abbrev pub run_span : ClusterRun → Span
run_span r = span_kept r.span

abbrev pub cluster_count : ClusterRun → ℕ
cluster_count r = r.span.further + 1

-- which cluster, in the order of the text, stands behind so many from the left: at an odd level they stand in the opposite order
abbrev pub cluster_from_left : ClusterRun → ℕ → ℕ
cluster_from_left r number = if is_odd r.level then r.span.further - number else number

-- the entry with this number, from the left, of a run that begins at this column
abbrev pub run_entry : (column : ℕ) → ClusterRun → (number : ℕ) → Entry
run_entry column r number = record {
  span = span_after (cluster_from_left r number) (run_span r);
  column = column + number * r.columns;
  level = r.level;
  columns = r.columns;
}

abbrev pub run_entries : (column : ℕ) → ClusterRun → List Entry
run_entries column r = map (run_entry column r) (range_with_len 0 (cluster_count r))

-- the columns of a run, and of some
abbrev pub run_columns : ClusterRun → ℕ
run_columns r = cluster_count r * r.columns

abbrev pub runs_columns : List ClusterRun → ℕ
runs_columns runs = sum_by run_columns runs

-- the entries of runs that stand side by side from this column on
abbrev pub runs_entries : (column : ℕ) → List ClusterRun → List Entry
runs_entries column [] = []
runs_entries column (r ∷ later) = run_entries column r ++ runs_entries (column + run_columns r) later

-- the last cluster of a run still has numbers of 32 bits
abbrev pub IsInReach : ClusterRun → Type 0
IsInReach r = StaysInReach (r.span.further * byte_count (run_span r)) (r.span.further * point_count (run_span r)) (run_span r)

-- a run moved this many bytes and places later
abbrev pub shifted_run : (bytes places : ℕ) → ClusterRun → ClusterRun
shifted_run bytes places r = record r { span = kept_later bytes places r.span }

-- its first and its last cluster may be shifted
pub record MayShiftRun (bytes places : ℕ) (r : ClusterRun) : Type 0 where
  pub first : MayShift bytes places (run_span r)
  pub last : MayShift bytes places (span_after r.span.further (run_span r))

-- the runs of a row: their entries stand within the width from column `start` on, and are so many
pub record AreKept (width start count : ℕ) (runs : List ClusterRun) : Type 0 where
  pub wide : width < 2 ^ 16
  pub stand : StandWithin width start (runs_entries start runs)
  pub reach : All IsInReach runs
  pub counted : length (runs_entries start runs) ≡ count

-- how many clusters the first run has behind its first
abbrev pub first_further : List ClusterRun → ℕ
first_further [] = 0
first_further (r ∷ later) = r.span.further

-- the runs that are left of a row at this column, where so many entries of the first are passed
pub record AreLeft (column passed : ℕ) (runs : List ClusterRun) : Type 0 where
  pub reach : All IsInReach runs
  pub fits : column + runs_columns runs < 2 ^ 16
  pub within : passed ≤ first_further runs
