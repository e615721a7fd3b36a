-- What the rows of a paragraph are made from.
use Rattle.std.specs.Prelude.{◌≡◌, ℕ, ◌-◌, ◌<◌, ◌≤◌, true, List, map, length, sum, slice_range}
use Rattle.std.specs.List.{All}
use Rattle.std.specs.Str.{IsCharBoundary, chars}
use Rattle.unicode_tables.specs.Tables.{TableValues}
use Rattle.paragraphs.specs.Text.{code_points}
use Rattle.paragraphs.specs.Clusters.{clusters, cluster_sizes}
use Rattle.line_break.specs.declared.line.Line.{Line}
use Rattle.line_break.specs.LineClusters.{line_clusters}
use Rattle.line_break.specs.Lines.{fits}
use Rattle.paragraphs.specs.declared.span.Span.{Span}
use Rattle.cell_grid.specs.Spans.{spans, extent}

-- the columns that each cluster of a paragraph has by itself
abbrev pub own_columns : TableValues → List ℕ → List ℕ
own_columns tables text = map (λ c. c.columns) (line_clusters tables text)

-- clusters of these sizes stand together in a text
pub record StandIn (text : List ℕ) (line : List Span) (sizes : List ℕ) : Type 0 where
  pub start : IsCharBoundary text (extent line).first_byte
  pub end : IsCharBoundary text (extent line).end_byte
  pub bytes : (extent line).first_byte ≤ (extent line).end_byte
  pub places : (extent line).first_place ≤ (extent line).end_place
  pub within : (extent line).end_place ≤ length (code_points text)
  pub points : chars (slice_range text (extent line).first_byte (extent line).end_byte) ≡ slice_range (code_points text) (extent line).first_place (extent line).end_place
  pub some : All (λ size. 0 < size) sizes
  pub whole : sum sizes ≡ (extent line).end_place - (extent line).first_place

-- a line of a paragraph's clusters that fits
pub record IsLine (tables : TableValues) (width : ℕ) (text : List ℕ) (line : Line) : Type 0 where
  pub order : line.start ≤ line.end
  pub within : line.end ≤ length (clusters text)
  pub fits : fits width (slice_range (line_clusters tables text) line.start line.end) ≡ true
  pub stand : StandIn text (slice_range (spans text) line.start line.end) (slice_range (cluster_sizes text) line.start line.end)
