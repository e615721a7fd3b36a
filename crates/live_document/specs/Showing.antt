-- What is shown: a window over rows that are kept.
use Rattle.std.specs.Prelude.{◌≡◌, ◌+◌, ◌-◌, ◌<◌, ◌≤◌, ◌++◌, ℕ, List, [], ◌∷◌, length, take, drop, get_or, slice_get, map as each, encode_utf8_all}
use Rattle.std.specs.List.{concat}
use Rattle.std.specs.Option.{option_map_or}
use Rattle.unicode_tables.specs.Tables.{TableValues}
use Rattle.bg_types.specs.declared.class.Base.{Base}
use Rattle.text_buffer.specs.Buffers.{bytes_in, text_in}
use Rattle.cell_grid.specs.Rows.{DrawnRow, shifted}
use Rattle.cell_grid.specs.Grids.{DrawnGrid}
use Rattle.cell_grid.specs.Print.{own_sizes, row_text}
use Rattle.cell_grid.specs.Windows.{DrawnWindow, row_at}
use Rattle.live_document.specs.declared.shown.Shown.{Shown}
use Rattle.live_document.specs.Keeping.{KeptText, rows_beside, rows_of_text, IsKeptAt}

-- the rows that are kept of paragraphs, which stand behind so many bytes and places of their text
abbrev pub rows_behind : (bytes places : ℕ) → KeptText → List DrawnRow
rows_behind bytes places [] = []
rows_behind bytes places (p ∷ later) =
    each (shifted bytes places) (rows_beside p) ++ rows_behind (bytes + bytes_in p.points) (places + length p.points) later

-- those of the paragraphs from this number on, where they stand in the text
abbrev pub rows_from : KeptText → ℕ → List DrawnRow
rows_from kept number = rows_behind (bytes_in (text_in (take number kept))) (length (text_in (take number kept))) (drop number kept)

-- the window that is shown
abbrev pub window_in : KeptText → Shown → DrawnWindow
window_in kept s = record { rows = take s.count (drop s.skip (rows_from kept s.first)); number = s.number }

-- nothing is shown
abbrev pub no_window : DrawnWindow
no_window = record { rows = []; number = 0 }

-- it as a part of the text's grid
abbrev pub shown_in : TableValues → KeptText → Shown → DrawnGrid
shown_in tables kept s = record { tables = tables; text = encode_utf8_all (text_in kept); rows = (window_in kept s).rows }

-- what a row prints, by its number among those that are kept from a paragraph on
abbrev pub there_text : TableValues → KeptText → (number row : ℕ) → List ℕ
there_text tables kept number row = option_map_or (row_text tables (encode_utf8_all (text_in kept))) (slice_get (rows_from kept number) row) []

-- how many bytes each of its entries has there
abbrev pub there_sizes : TableValues → KeptText → (number row : ℕ) → List ℕ
there_sizes tables kept number row = option_map_or (own_sizes tables (encode_utf8_all (text_in kept))) (slice_get (rows_from kept number) row) []

-- all its rows are kept, of a paragraph that is there and those behind it, and can be counted
pub record IsAtHand (kept : KeptText) (s : Shown) : Type 0 where
  pub there : s.first < length kept
  pub enough : s.skip + s.count ≤ length (rows_from kept s.first)
  pub few : s.skip + s.count ≤ 15_000_000

-- the row of a place, among so many of the paragraph in which the place stands
pub record IsRowOf (tables : TableValues) (width : ℕ) (base : Base) (texts : List (List ℕ)) (place number row rows : ℕ) : Type 0 where
  pub is : row ≡ row_at (rows_of_text tables width base (get_or texts number [])) (place - length (concat (take number texts)))
  pub count : rows ≡ length (rows_of_text tables width base (get_or texts number []))
  pub within : row < rows

-- its rows may be read: they are those of their paragraphs
pub record IsReadable (kept : KeptText) (s : Shown) : Type 0 where
  pub tables : TableValues
  pub width : ℕ
  pub base : Base
  pub kept_at : IsKeptAt tables width base kept
  pub at_hand : IsAtHand kept s
