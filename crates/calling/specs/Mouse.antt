-- What is seen under the mouse.
use Rattle.std.specs.Prelude.{ℕ, Option, Some, None, slice_get, option_and_then}
use Rattle.cell_grid.specs.declared.entry.Entry.{Entry}
use Rattle.cell_grid.specs.declared.cell.Cell.{Cell}
use Rattle.cell_grid.specs.declared.cell.Cell.TheVariants.{Blank, Head, Tail}
use Rattle.cell_grid.specs.Rows.{DrawnRow}
use Rattle.cell_grid.specs.Grids.{DrawnGrid}

-- the number of the entry that is seen in a cell
abbrev pub entry_number : Cell → Option ℕ
entry_number Blank = None
entry_number (Head n) = Some n
entry_number (Tail n) = Some n

-- the entry that is seen in a column of a row
abbrev pub entry_under : DrawnRow → (column : ℕ) → Option Entry
entry_under row column = option_and_then (slice_get row.entries) (option_and_then entry_number (slice_get row.cells column))

-- the first place of the cluster that is seen in a cell
abbrev pub place_under : DrawnGrid → (row column : ℕ) → Option ℕ
place_under grid row column =
    option_and_then (λ (e : Entry). Some e.span.first_place) (option_and_then (λ r. entry_under r column) (slice_get grid.rows row))
