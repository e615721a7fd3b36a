-- Runs of clusters of one shape, read from the front: what lines have of a paragraph's runs, one line after the other.
use Rattle.std.specs.Prelude.{◌≡◌, ℕ, ◌+◌, ◌-◌, ◌*◌, ◌<◌, ◌≤◌, List, ◌∷◌, drop}
use Rattle.std.specs.List.{flat_map}
use Rattle.unicode_tables.specs.Tables.{TableValues}
use Rattle.paragraphs.specs.Clusters.{cluster_sizes}
use Rattle.paragraphs.specs.declared.span.Span.{Span}
use Rattle.line_break.specs.declared.run.ShapeRun.{ShapeRun}
use Rattle.line_break.specs.Runs.{spans_of, sizes_of, columns_of}
use Rattle.cell_grid.specs.declared.part.Cursor.{Cursor}
use Rattle.cell_grid.specs.Outline.{own_columns}
use Rattle.cell_grid.specs.Spans.{spans}

-- so many of a run's first clusters, and those behind them
abbrev pub front : (count : ℕ) → ShapeRun → ShapeRun
front count run = record run { count = count }

abbrev pub behind : (count : ℕ) → ShapeRun → ShapeRun
behind count run = record run {
  first_byte = run.first_byte + count * run.bytes;
  first_place = run.first_place + count * run.points;
  count = run.count - count;
}

-- the clusters of all runs: where each stands, how many code points it has, and how many columns
abbrev pub all_spans : List ShapeRun → List Span
all_spans runs = flat_map spans_of runs

abbrev pub all_sizes : List ShapeRun → List ℕ
all_sizes runs = flat_map sizes_of runs

abbrev pub all_columns : List ShapeRun → List ℕ
all_columns runs = flat_map columns_of runs

-- each cluster has a code point, and none ends behind the greatest length of a text
pub record IsWithin (run : ShapeRun) : Type 0 where
  pub points : 0 < run.points
  pub bytes : run.first_byte + run.count * run.bytes ≤ 4_000_000
  pub places : run.first_place + run.count * run.points ≤ 4_000_000

-- what is left of a paragraph's runs
abbrev pub left_of : List ShapeRun → Cursor → List ShapeRun
left_of runs cursor = cursor.first ∷ drop cursor.next runs

-- so many of the clusters of some runs are passed, and these are left
pub record ArePassed (count : ℕ) (runs later : List ShapeRun) : Type 0 where
  pub spans : all_spans later ≡ drop count (all_spans runs)
  pub sizes : all_sizes later ≡ drop count (all_sizes runs)
  pub columns : all_columns later ≡ drop count (all_columns runs)

-- runs have the clusters of a text from this one on
pub record AreFrom (tables : TableValues) (text : List ℕ) (start : ℕ) (runs : List ShapeRun) : Type 0 where
  pub spans : all_spans runs ≡ drop start (spans text)
  pub sizes : all_sizes runs ≡ drop start (cluster_sizes text)
  pub columns : all_columns runs ≡ drop start (own_columns tables text)
