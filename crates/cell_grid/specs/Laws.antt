-- Words of the laws of rows and grids.
use Rattle.std.specs.Prelude.{◌≡◌, ℕ, ◌+◌, ◌<◌, ◌≤◌, List, [], ◌∷◌, map, length, slice_get, Some}
use Rattle.std.specs.List.{All, flat_map}
use Rattle.unicode_tables.specs.Tables.{TableValues}
use Rattle.paragraphs.specs.Paragraphs.{Paragraph, paragraphs}
use Rattle.paragraphs.specs.declared.span.Span.{Span}
use Rattle.cell_grid.specs.declared.entry.Entry.{Entry}
use Rattle.cell_grid.specs.declared.cell.Cell.{Cell}
use Rattle.cell_grid.specs.declared.cell.Cell.TheVariants.{Blank, Head, Tail}
use Rattle.cell_grid.specs.Spans.{spans, shifted_span}
use Rattle.cell_grid.specs.Cells.{IsSeenAt}
use Rattle.cell_grid.specs.Rows.{DrawnRow}

-- where the clusters of all paragraphs stand in a text, in order
abbrev pub text_spans : TableValues → List ℕ → List Span
text_spans tables text = flat_map (λ (p : Paragraph). map (shifted_span p.first_byte p.first_place) (spans p.text)) (paragraphs tables text)

-- where the entries of some rows stand in the text
abbrev pub entry_spans : List DrawnRow → List Span
entry_spans rows = flat_map (λ (r : DrawnRow). map (λ (e : Entry). e.span) r.entries) rows

-- the first row begins at this place, each other one where the one before it ends, and the last ends there
abbrev pub RowsFollow : (from : ℕ) → List DrawnRow → (to : ℕ) → Type 0
RowsFollow from [] to = from ≡ to
RowsFollow from (r ∷ later) to = (r.first_place ≡ from) × (r.first_place ≤ r.last_place) × RowsFollow r.last_place later to

-- entry n of a row has a place
pub record Holds (r : DrawnRow) (n place : ℕ) : Type 0 where
  pub entry : Entry
  pub is : slice_get r.entries n ≡ Some entry
  pub from : entry.span.first_place ≤ place
  pub to : place < entry.span.end_place

-- the entry has a place, and all of its places are the row's
pub record IsWithin (r : DrawnRow) (e : Entry) : Type 0 where
  pub from : r.first_place ≤ e.span.first_place
  pub some : e.span.first_place < e.span.end_place
  pub to : e.span.end_place ≤ r.last_place

-- each place of the row lies in exactly one entry, and no other place in any
pub record HoldsPlacesOnce (r : DrawnRow) : Type 0 where
  pub within : All (IsWithin r) r.entries
  pub each : (place : ℕ) → r.first_place ≤ place → place < r.last_place → (n : ℕ) × Holds r n place
  pub once : (place m n : ℕ) → Holds r m place → Holds r n place → m ≡ n

-- a cell of entry n is its head or its tail
abbrev pub IsCellOf : (n : ℕ) → Cell → Type 0
IsCellOf n Blank = ⊥
IsCellOf n (Head m) = m ≡ n
IsCellOf n (Tail m) = m ≡ n

-- there are as many cells as columns; entries with columns cover their cells once, Blank the rest, and an entry of no columns has no cell
pub record CoversCellsOnce (width : ℕ) (r : DrawnRow) : Type 0 where
  pub length : length r.cells ≡ width
  pub seen : (column : ℕ) (c : Cell) → slice_get r.cells column ≡ Some c → IsSeenAt r.entries column c
  pub covered : (n column : ℕ) (e : Entry) → slice_get r.entries n ≡ Some e → e.column ≤ column → column < e.column + e.columns
      → (c : Cell) × (slice_get r.cells column ≡ Some c) × IsCellOf n c
