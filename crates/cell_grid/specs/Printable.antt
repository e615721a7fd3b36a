-- What can be printed.
use Rattle.std.specs.Prelude.{ℕ, ◌^◌, ◌<◌, ◌≤◌, List}
use Rattle.std.specs.List.{All}
use Rattle.std.specs.Str.{IsCharBoundary}
use Rattle.paragraphs.specs.declared.span.Span.{Span}
use Rattle.cell_grid.specs.declared.cluster_run.ClusterRun.{ClusterRun}
use Rattle.cell_grid.specs.declared.entry.Entry.{Entry}
use Rattle.cell_grid.specs.Rows.{DrawnRow}
use Rattle.cell_grid.specs.Runs.{run_span, span_after, run_columns, IsInReach}

-- a slice of the text between characters
pub record IsSlice (text : List ℕ) (s : Span) : Type 0 where
  pub order : s.first_byte ≤ s.end_byte
  pub start : IsCharBoundary text s.first_byte
  pub end : IsCharBoundary text s.end_byte

-- each entry of a row is one
abbrev pub AreSlices : (text : List ℕ) → DrawnRow → Type 0
AreSlices text r = All (λ (e : Entry). IsSlice text e.span) r.entries

-- a run of a row: each of its clusters is one
pub record IsPrintable (text : List ℕ) (r : ClusterRun) : Type 0 where
  pub reach : IsInReach r
  pub columns : run_columns r < 2 ^ 16
  pub slices : (number : ℕ) → number ≤ r.span.further → IsSlice text (span_after number (run_span r))
