-- Grid: the rows of a text.
use Rattle.std.specs.Prelude.{◌≡◌, ℕ, ◌+◌, ◌≤◌, List, map, length}
use Rattle.std.specs.List.{flat_map}
use Rattle.std.specs.Str.{IsUtf8}
use Rattle.bg_types.specs.declared.class.Base.{Base}
use Rattle.unicode_tables.specs.Tables.{TableValues}
use Rattle.paragraphs.specs.Text.{code_points}
use Rattle.paragraphs.specs.Paragraphs.{Paragraph, paragraphs}
use Rattle.cell_grid.specs.Rows.{DrawnRow, rows_of, shifted}

-- a paragraph of a text of at most 4,000,000 bytes
pub record IsDrawable (p : Paragraph) : Type 0 where
  pub utf8 : IsUtf8 p.text
  pub bytes : p.first_byte + length p.text ≤ 4_000_000
  pub places : p.first_place + length (code_points p.text) ≤ 4_000_000

-- a grid: the tables and the text that it was drawn from, and its rows
pub record DrawnGrid : Type 0 where
  pub tables : TableValues
  pub text : List ℕ
  pub rows : List DrawnRow

-- the rows of a paragraph, where it stands in its text
abbrev pub paragraph_rows : TableValues → (width : ℕ) → Base → Paragraph → List DrawnRow
paragraph_rows tables width base p = map (shifted p.first_byte p.first_place) (rows_of tables width base p.text)

-- the rows of all lines of all paragraphs, in order
abbrev pub grid_rows : TableValues → (width : ℕ) → Base → List ℕ → List DrawnRow
grid_rows tables width base text = flat_map (paragraph_rows tables width base) (paragraphs tables text)

-- Grid: what is drawn from a text at a width and a base
abbrev pub grid_of : TableValues → (width : ℕ) → Base → List ℕ → DrawnGrid
grid_of tables width base text = record { tables = tables; text = text; rows = grid_rows tables width base text }

-- a grid is that of its text at some width and some base
pub record IsDrawn (g : DrawnGrid) : Type 0 where
  pub width : ℕ
  pub base : Base
  pub at_least : 2 ≤ width
  pub at_most : width ≤ 500
  pub utf8 : IsUtf8 g.text
  pub size : length g.text ≤ 4_000_000
  pub rows : g.rows ≡ grid_rows g.tables width base g.text
