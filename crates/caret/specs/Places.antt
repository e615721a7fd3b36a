-- *CaretMoves*: the caret at a place of the text.
use Rattle.std.specs.Prelude.{ℕ, ◌+◌, Bool, ◌&&◌, ◌==◌, nat_le, nat_lt, List, length, Option, find, slice_get, if◌then◌else◌}
use Rattle.std.specs.List.{enumerate_from}
use Rattle.std.specs.Option.{option_map_or}
use Rattle.std.specs.Str.{chars}
use Rattle.reorder.specs.VisualList.{is_odd}
use Rattle.cell_grid.specs.declared.entry.Entry.{Entry}
use Rattle.cell_grid.specs.Rows.{DrawnRow}
use Rattle.cell_grid.specs.Grids.{DrawnGrid}
use Rattle.caret.specs.declared.caret.Caret.{Caret}
pub use Rattle.cell_grid.specs.Windows.{begins_by, row_at}

-- the entry's cluster has place p
abbrev pub holds : ℕ → Entry → Bool
holds p e = nat_le e.span.first_place p && nat_lt p e.span.end_place

-- the entry's cluster ends at place p
abbrev pub ends_at : ℕ → Entry → Bool
ends_at p e = e.span.end_place == p

-- at the start of a cluster: its left gap at an even level, its right gap at an odd one
abbrev pub before_cluster : ℕ → ℕ × Entry → Caret
before_cluster number found = record { row = number; gap = if is_odd found.1.level then found.0 + 1 else found.0; place = found.1.span.first_place }

-- at the end of a cluster: its right gap at an even level, its left gap at an odd one
abbrev pub behind_cluster : ℕ → ℕ × Entry → Caret
behind_cluster number found = record { row = number; gap = if is_odd found.1.level then found.0 else found.0 + 1; place = found.1.span.end_place }

-- gap 0 of a row, with place p
abbrev pub gap_zero : ℕ → ℕ → Caret
gap_zero number p = record { row = number; gap = 0; place = p }

-- the first entry that passes, with its number
abbrev pub entry_where : (Entry → Bool) → List Entry → Option (ℕ × Entry)
entry_where passes entries = find (λ (numbered : ℕ × Entry). passes numbered.1) (enumerate_from 0 entries)

-- the caret at place p in this row: at the start of the cluster that has it
abbrev pub at_cluster : ℕ → ℕ → DrawnRow → Caret
at_cluster p number row = option_map_or (before_cluster number) (entry_where (holds p) row.entries) (gap_zero number p)

-- the caret at the end of this row: after its logically last cluster, the one that ends at its last place, and at gap 0 of an empty row
abbrev pub at_end : ℕ → DrawnRow → Caret
at_end number row = option_map_or (behind_cluster number) (entry_where (ends_at row.last_place) row.entries) (gap_zero number row.last_place)

-- the caret at place p, in this row of a text of this many code points
abbrev pub caret_in : ℕ → ℕ → ℕ → DrawnRow → Caret
caret_in code_points p number row = if p == code_points then at_end number row else at_cluster p number row

-- `at_place`
abbrev pub caret_at : DrawnGrid → ℕ → Caret
caret_at grid p = option_map_or (caret_in (length (chars grid.text)) p (row_at grid.rows p)) (slice_get grid.rows (row_at grid.rows p)) (gap_zero 0 p)

-- the caret at place p, in this row of some: at its end where p is its last place
abbrev pub caret_in_row : ℕ → ℕ → DrawnRow → Caret
caret_in_row p number row = if p == row.last_place then at_end number row else at_cluster p number row

-- the caret at place p among rows
abbrev pub caret_among : List DrawnRow → ℕ → Caret
caret_among rows p = option_map_or (caret_in_row p (row_at rows p)) (slice_get rows (row_at rows p)) (gap_zero 0 p)
