-- *CaretMoves*: the caret after a move, among the rows of a grid.
use Rattle.std.specs.Prelude.{ℕ, ◌+◌, ◌-◌, List, length, slice_get, if◌then◌else◌}
use Rattle.std.specs.Option.{option_map_or}
use Rattle.reorder.specs.VisualList.{is_odd}
use Rattle.cell_grid.specs.declared.entry.Entry.{Entry}
use Rattle.cell_grid.specs.Rows.{DrawnRow}
use Rattle.caret.specs.declared.caret.Caret.{Caret}
use Rattle.caret.specs.Lists.{element_before}
use Rattle.caret.specs.Gaps.{left_side, right_side, gap_column, last_gap_by, gap_place}

-- a row's logical start: gap 0 in a row of even paragraph level and gap n in one of odd level, with the row's first place
abbrev pub logical_start : ℕ → DrawnRow → Caret
logical_start number row = record { row = number; gap = if is_odd row.para_level then length row.entries else 0; place = row.first_place }

-- its logical end: the other edge, with the row's last place
abbrev pub logical_end : ℕ → DrawnRow → Caret
logical_end number row = record { row = number; gap = if is_odd row.para_level then 0 else length row.entries; place = row.last_place }

-- to the next row's logical start; where there is no such row nothing changes
abbrev pub onwards : List DrawnRow → Caret → Caret
onwards rows caret = option_map_or (logical_start (caret.row + 1)) (slice_get rows (caret.row + 1)) caret

-- to the logical end of the row before; where there is no such row nothing changes
abbrev pub backwards : List DrawnRow → Caret → Caret
backwards rows caret = option_map_or (logical_end (caret.row - 1)) (element_before rows caret.row) caret

-- right in a row crosses entry g
abbrev pub over_to_right : Caret → Entry → Caret
over_to_right caret entry = record { row = caret.row; gap = caret.gap + 1; place = right_side entry }

-- left in a row crosses entry g - 1
abbrev pub over_to_left : Caret → Entry → Caret
over_to_left caret entry = record { row = caret.row; gap = caret.gap - 1; place = left_side entry }

-- right from the right edge of a row: on in a row of even paragraph level, back in one of odd level
abbrev pub past_right_edge : List DrawnRow → Caret → DrawnRow → Caret
past_right_edge rows caret row = if is_odd row.para_level then backwards rows caret else onwards rows caret

-- left from the left edge
abbrev pub past_left_edge : List DrawnRow → Caret → DrawnRow → Caret
past_left_edge rows caret row = if is_odd row.para_level then onwards rows caret else backwards rows caret

-- right from a caret in this row
abbrev pub right_in : List DrawnRow → Caret → DrawnRow → Caret
right_in rows caret row = option_map_or (over_to_right caret) (slice_get row.entries caret.gap) (past_right_edge rows caret row)

-- left from a caret in this row
abbrev pub left_in : List DrawnRow → Caret → DrawnRow → Caret
left_in rows caret row = option_map_or (over_to_left caret) (element_before row.entries caret.gap) (past_left_edge rows caret row)

-- `right`
abbrev pub right_of : List DrawnRow → Caret → Caret
right_of rows caret = option_map_or (right_in rows caret) (slice_get rows caret.row) caret

-- `left`
abbrev pub left_of : List DrawnRow → Caret → Caret
left_of rows caret = option_map_or (left_in rows caret) (slice_get rows caret.row) caret

-- a row's last gap whose column isn't greater than this, else gap 0, with that gap's place
abbrev pub caret_by : ℕ → ℕ → DrawnRow → Caret
caret_by column number row = record { row = number; gap = last_gap_by row column; place = gap_place row (last_gap_by row column) }

-- `at_column`: the caret in the row with this number by this column
abbrev pub caret_under : List DrawnRow → (row column : ℕ) → Caret
caret_under rows row column = option_map_or (caret_by column row) (slice_get rows row) (record { row = row; gap = 0; place = 0 })

-- the column of a caret's gap
abbrev pub column_of : List DrawnRow → Caret → ℕ
column_of rows caret = option_map_or (λ row. gap_column row caret.gap) (slice_get rows caret.row) 0

-- `up`: into the row before; without one nothing changes
abbrev pub up_of : List DrawnRow → Caret → Caret
up_of rows caret = option_map_or (caret_by (column_of rows caret) (caret.row - 1)) (element_before rows caret.row) caret

-- `down`: into the next row; without one nothing changes
abbrev pub down_of : List DrawnRow → Caret → Caret
down_of rows caret = option_map_or (caret_by (column_of rows caret) (caret.row + 1)) (slice_get rows (caret.row + 1)) caret
