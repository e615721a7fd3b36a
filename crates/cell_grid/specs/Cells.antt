-- The cells of a row.
use Rattle.std.specs.Prelude.{◌≡◌, ℕ, zero, suc, ◌+◌, ◌-◌, ◌<◌, ◌≤◌, List, [], ◌∷◌, ◌++◌, length, replicate, sum_by, slice_get, Some}
use Rattle.cell_grid.specs.declared.entry.Entry.{Entry}
use Rattle.cell_grid.specs.declared.cell.Cell.{Cell}
use Rattle.cell_grid.specs.declared.cell.Cell.TheVariants.{Blank, Head, Tail}

-- the cells of an entry with this number and this many columns: its head, and after it its tail
abbrev pub entry_cells : (number columns : ℕ) → List Cell
entry_cells number zero = []
entry_cells number (suc n) = Head number ∷ replicate n (Tail number)

-- the cells of entries, the first of which has this number
abbrev pub entries_cells : (number : ℕ) → List Entry → List Cell
entries_cells number [] = []
entries_cells number (e ∷ later) = entry_cells number e.columns ++ entries_cells (number + 1) later

-- the cells of a row of this width whose entries begin at column `start`
abbrev pub cells_of : (width start : ℕ) → List Entry → List Cell
cells_of width start entries =
    let taken = entries_cells 0 entries in
    replicate start Blank ++ (taken ++ replicate (width - (start + length taken)) Blank)

-- the first entry stands at this column, each other one where the one before it ends, and the last ends there
abbrev pub ColumnsFollow : (from : ℕ) → List Entry → (to : ℕ) → Type 0
ColumnsFollow from [] to = from ≡ to
ColumnsFollow from (e ∷ later) to = (e.column ≡ from) × ColumnsFollow (e.column + e.columns) later to

-- the columns of some entries
abbrev pub total : List Entry → ℕ
total entries = sum_by (λ (e : Entry). e.columns) entries

-- the entries stand side by side from column `start` on, within the width
pub record StandWithin (width start : ℕ) (entries : List Entry) : Type 0 where
  pub follow : ColumnsFollow start entries (start + total entries)
  pub fits : start + total entries ≤ width
  pub count : length entries ≤ 4_000_000

-- entry n is seen in this cell: in its head, or after it in its tail
abbrev pub IsSeenAt : List Entry → (column : ℕ) → Cell → Type 0
IsSeenAt entries column Blank = (n : ℕ) (e : Entry) → slice_get entries n ≡ Some e → e.column ≤ column → column < e.column + e.columns → ⊥
IsSeenAt entries column (Head n) = (e : Entry) × (slice_get entries n ≡ Some e) × (e.column ≡ column) × (0 < e.columns)
IsSeenAt entries column (Tail n) = (e : Entry) × (slice_get entries n ≡ Some e) × (e.column < column) × (column < e.column + e.columns)
