-- Row: what is drawn of a line.
use Rattle.std.specs.Prelude.{ℕ, ◌+◌, ◌-◌, List, [], ◌∷◌, map, sum, slice_index, slice_index_or, slice_range, if◌then◌else◌}
use Rattle.bg_types.specs.declared.class.Base.{Base}
use Rattle.unicode_tables.specs.Tables.{TableValues}
use Rattle.paragraphs.specs.Clusters.{cluster_sizes}
use Rattle.bidi_explicit.specs.Embedding.{paragraph_level, classes_of}
use Rattle.bidi_weak_neutral.specs.Levels.{levels_of}
use Rattle.line_break.specs.declared.line.Line.{Line}
use Rattle.line_break.specs.Lines.{lines}
use Rattle.reorder.specs.LineLevels.{line_levels_of}
use Rattle.reorder.specs.VisualList.{visual_list, is_odd}
use Rattle.paragraphs.specs.declared.span.Span.{Span}
use Rattle.cell_grid.specs.declared.entry.Entry.{Entry}
use Rattle.cell_grid.specs.declared.cell.Cell.{Cell}
use Rattle.cell_grid.specs.Spans.{spans, extent, shifted_span}
use Rattle.cell_grid.specs.Hanging.{line_columns}
use Rattle.cell_grid.specs.Cells.{cells_of}

-- a row: its first place, and the one after its last code point; the paragraph's level; the entries from left to right; the cells
pub record DrawnRow : Type 0 where
  pub first_place : ℕ
  pub last_place : ℕ
  pub para_level : ℕ
  pub entries : List Entry
  pub cells : List Cell

-- the entries of the clusters with these numbers, from left to right, the first at this column and each other one where the one before it ends
abbrev pub entries_from : List Span → (levels columns : List ℕ) → (column : ℕ) → (order : List ℕ) → List Entry
entries_from spans levels columns column [] = []
entries_from spans levels columns column (k ∷ order) =
    record {
      span = slice_index_or spans k (extent []);
      level = slice_index levels k;
      column = column;
      columns = slice_index columns k;
    } ∷ entries_from spans levels columns (column + slice_index columns k) order

-- where a row begins: on the left in a paragraph of even level, otherwise so that it ends on the right
abbrev pub start_column : (width para_level : ℕ) → (columns : List ℕ) → ℕ
start_column width para_level columns = if is_odd para_level then width - sum columns else 0

-- the row of clusters with these spans, levels and columns
abbrev pub row_with : (width para_level : ℕ) → List Span → (levels columns : List ℕ) → DrawnRow
row_with width para_level spans levels columns =
    let start = start_column width para_level columns in
    let entries = entries_from spans levels columns start (visual_list levels) in
    record {
      first_place = (extent spans).first_place;
      last_place = (extent spans).end_place;
      para_level = para_level;
      entries = entries;
      cells = cells_of width start entries;
    }

-- the levels of clusters of these sizes, which have this extent in the paragraph's text, by the levels of its code points
abbrev pub levels_in_line : TableValues → (text levels : List ℕ) → (para_level : ℕ) → List Span → (sizes : List ℕ) → List ℕ
levels_in_line tables text levels para_level spans sizes =
    line_levels_of tables
    (slice_range text (extent spans).first_byte (extent spans).end_byte)
    (slice_range levels (extent spans).first_place (extent spans).end_place)
    sizes para_level

-- the row of a line of a paragraph's text, by the paragraph's level and the levels of its code points
abbrev pub row_of : TableValues → (width para_level : ℕ) → (text levels : List ℕ) → Line → DrawnRow
row_of tables width para_level text levels line =
    let line_spans = slice_range (spans text) line.start line.end in
    let line_sizes = slice_range (cluster_sizes text) line.start line.end in
    row_with width para_level line_spans
    (levels_in_line tables text levels para_level line_spans line_sizes)
    (line_columns tables width text line)

-- the rows of a paragraph's text, counted from its start
abbrev pub rows_of : TableValues → (width : ℕ) → Base → List ℕ → List DrawnRow
rows_of tables width base text =
    map (row_of tables width (paragraph_level base (classes_of tables text)) text (levels_of tables base text)) (lines tables text width)

abbrev pub shifted_entry : (bytes places : ℕ) → Entry → Entry
shifted_entry bytes places e = record e { span = shifted_span bytes places e.span }

-- a row moved this many bytes and places later
abbrev pub shifted : (bytes places : ℕ) → DrawnRow → DrawnRow
shifted bytes places r = record r {
  first_place = r.first_place + places;
  last_place = r.last_place + places;
  entries = map (shifted_entry bytes places) r.entries;
}
