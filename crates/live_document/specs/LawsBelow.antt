-- What this crate's proofs take from the laws of the crates below, in the words of those laws.
use Rattle.std.specs.Prelude.{◌≡◌, ℕ, ◌+◌, ◌<◌, ◌≤◌, List, ◌++◌, length, sum_by}
use Rattle.std.specs.List.{All, flat_map}
use Rattle.std.specs.Str.{IsUtf8}
use Rattle.bg_types.specs.declared.class.Base.{Base}
use Rattle.unicode_tables.specs.Tables.{TableValues}
use Rattle.paragraphs.specs.Text.{code_points}
use Rattle.paragraphs.specs.Paragraphs.{Paragraph, paragraphs, StandsIn, ParagraphsFollow}
use Rattle.cell_grid.specs.Rows.{DrawnRow, rows_of, shifted}
use Rattle.cell_grid.specs.Print.{own_sizes, row_text}
use Rattle.cell_grid.specs.Printable.{AreSlices}
use Rattle.cell_grid.specs.Shifting.{MayShiftRow}
use Rattle.cell_grid.specs.Grids.{DrawnGrid, IsDrawn, paragraph_rows}
use Rattle.cell_grid.specs.Laws.{RowsFollow}
use Rattle.cell_grid.specs.Windows.{FirstPlacesRise, window_of, HasWindow}
use Rattle.caret.specs.declared.position.Position.{Position}
use Rattle.caret.specs.Positions.{position_at, IsPositionOf, PositionsAreCarets, MovesInWindow}

pub record LawsBelow : Type 0 where
  -- paragraphs, as `paragraphs` promises of them
  pub paragraphs_stand : (tables : TableValues) (text : List ℕ) → IsUtf8 text → All (StandsIn text) (paragraphs tables text)
  pub paragraphs_follow : (tables : TableValues) (text : List ℕ) → IsUtf8 text → ParagraphsFollow 0 0 (paragraphs tables text)
  -- and rows, as `cell_grid` does
  pub places_rise : (g : DrawnGrid) → IsDrawn g → FirstPlacesRise g.rows
  pub rows_follow : (tables : TableValues) (width : ℕ) (base : Base) (byte place : ℕ) (paras : List Paragraph) → 2 ≤ width
      → All (λ (p : Paragraph). IsUtf8 p.text) paras → ParagraphsFollow byte place paras
      → RowsFollow place (flat_map (paragraph_rows tables width base) paras) (place + sum_by (λ (p : Paragraph). length (code_points p.text)) paras)
  pub rows_behind : (place from to : ℕ) (rows : List DrawnRow) → RowsFollow from rows to → place < from → All (λ (r : DrawnRow). place < r.first_place) rows
  pub some_rows : (tables : TableValues) (width : ℕ) (base : Base) (paras : List Paragraph) → 0 < length paras
      → 0 < length (flat_map (paragraph_rows tables width base) paras)
  pub may_shift : (tables : TableValues) (width : ℕ) (base : Base) (text : List ℕ) → 2 ≤ width → IsUtf8 text
      → (bytes places : ℕ) → bytes + length text ≤ 4_000_000 → places + length (code_points text) ≤ 4_000_000
      → All (MayShiftRow bytes places) (rows_of tables width base text)
  pub slices : (tables : TableValues) (width : ℕ) (base : Base) (text : List ℕ) → 2 ≤ width → IsUtf8 text
      → All (AreSlices text) (rows_of tables width base text)
  pub prints_alike : (tables : TableValues) (before text after : List ℕ) (places : ℕ) (row : DrawnRow) → AreSlices text row
      → row_text tables (before ++ (text ++ after)) (shifted (length before) places row) ≡ row_text tables text row
  pub sizes_alike : (tables : TableValues) (before text after : List ℕ) (places : ℕ) (row : DrawnRow) → AreSlices text row
      → own_sizes tables (before ++ (text ++ after)) (shifted (length before) places row) ≡ own_sizes tables text row
  pub in_stretch : (before rows after : List DrawnRow) (above below place : ℕ) → HasWindow before rows after above below place
      → window_of above below place (before ++ (rows ++ after)) ≡ window_of above below place rows
  pub whole_some : (g : DrawnGrid) → IsDrawn g → 0 < length g.rows
  pub whole_follow : (g : DrawnGrid) → IsDrawn g → RowsFollow 0 g.rows (length (code_points g.text))
  -- and carets, as `caret` does
  pub positions : (rows : List DrawnRow) → FirstPlacesRise rows → PositionsAreCarets rows
  pub place_in_stretch : (before rows after : List DrawnRow) (above below place : ℕ) → HasWindow before rows after above below place
      → position_at (before ++ (rows ++ after)) place ≡ position_at rows place
  pub moves_in_stretch : (before rows after : List DrawnRow) (position : Position) → HasWindow before rows after 1 1 position.row → IsPositionOf rows position
      → MovesInWindow before rows after position
