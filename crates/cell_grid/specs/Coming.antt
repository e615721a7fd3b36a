-- The cells that are left of a row, as they are gone over.
use Rattle.std.specs.Prelude.{◌≡◌, ℕ, ◌+◌, ◌-◌, ◌<◌, ◌≤◌, List, [], ◌++◌, length, replicate}
use Rattle.cell_grid.specs.declared.entry.Entry.{Entry}
use Rattle.cell_grid.specs.declared.cell.Cell.{Cell}
use Rattle.cell_grid.specs.declared.cell.Cell.TheVariants.{Blank, Tail}
use Rattle.cell_grid.specs.Cells.{entry_cells, entries_cells}

-- so many blanks, so many tails of the entry before this number, the cells of entries from it on, and so many blanks
abbrev pub cells_left : (left tails number : ℕ) → List Entry → (right : ℕ) → List Cell
cells_left left tails number entries right =
    replicate left Blank ++ (replicate tails (Tail (number - 1)) ++ (entries_cells number entries ++ replicate right Blank))

-- tails are left of an entry alone that was gone over, and the entries are those of a row
pub record AreComing (tails number : ℕ) (entries : List Entry) : Type 0 where
  pub behind : 0 < tails → 0 < number
  pub few : number + length entries ≤ 4_000_000

-- behind so many entries without columns comes one with so many, and then the others
pub record HasColumns (entries others : List Entry) (found : ℕ × ℕ) : Type 0 where
  pub some : 0 < found.1
  pub cells : (number : ℕ) → entries_cells number entries ≡ entry_cells (number + found.0) found.1 ++ entries_cells (number + found.0 + 1) others
  pub count : found.0 + 1 + length others ≡ length entries

-- no entry has columns, and none is left
pub record NoneHasColumns (entries others : List Entry) : Type 0 where
  pub cells : (number : ℕ) → entries_cells number entries ≡ []
  pub none : others ≡ []
