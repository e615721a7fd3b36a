-- The gaps of a row. Gap g stands left of entry g; a row of n entries has gaps 0 to n.
use Rattle.std.specs.Prelude.{ℕ, zero, suc, ◌≤◌, ◌+◌, ◌-◌, nat_le, List, length, slice_get, if◌then◌else◌, IsSomeAnd}
use Rattle.std.specs.Option.{option_map_or}
use Rattle.reorder.specs.VisualList.{is_odd}
use Rattle.cell_grid.specs.declared.entry.Entry.{Entry}
use Rattle.cell_grid.specs.Rows.{DrawnRow}
use Rattle.caret.specs.declared.caret.Caret.{Caret}
use Rattle.caret.specs.Lists.{last_below}

-- the place on the left side of an entry: before its cluster at an even level, after it at an odd one
abbrev pub left_side : Entry → ℕ
left_side e = if is_odd e.level then e.span.end_place else e.span.first_place

-- the place on its right side
abbrev pub right_side : Entry → ℕ
right_side e = if is_odd e.level then e.span.first_place else e.span.end_place

-- the column where an entry ends
abbrev pub end_column : Entry → ℕ
end_column e = e.column + e.columns

-- the column where the entries of a row end; an empty row starts there, at 0 or, in an odd paragraph, at the width
abbrev pub row_end : DrawnRow → ℕ
row_end row =
    option_map_or end_column (slice_get row.entries (length row.entries - 1))
    (if is_odd row.para_level then length row.cells else 0)

-- gap g's column: that of entry g, and gap n's the row's end
abbrev pub gap_column : DrawnRow → ℕ → ℕ
gap_column row gap = option_map_or (λ (e : Entry). e.column) (slice_get row.entries gap) (row_end row)

-- the last gap whose column isn't greater than this, else gap 0
abbrev pub last_gap_by : DrawnRow → ℕ → ℕ
last_gap_by row column = last_below (λ gap. nat_le (gap_column row gap) column) (length row.entries + 1)

-- a gap's place, as `up` and `down` answer it: the one on the right side of entry g - 1, or for gap 0 on the left side of entry 0, or the first place of an empty row
abbrev pub gap_place : DrawnRow → ℕ → ℕ
gap_place row zero = option_map_or left_side (slice_get row.entries 0) row.first_place
gap_place row (suc g) = option_map_or right_side (slice_get row.entries g) row.first_place

-- row and gap are those of a grid with these rows
abbrev pub IsCaretOf : List DrawnRow → Caret → Type 0
IsCaretOf rows caret = IsSomeAnd (slice_get rows caret.row) (λ row. caret.gap ≤ length row.entries)
