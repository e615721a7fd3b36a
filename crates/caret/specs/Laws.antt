-- Words of the laws of a caret's steps and places.
use Rattle.std.specs.Prelude.{ℕ, zero, suc, ◌≡◌, ◌<◌, ◌≤◌, ◌+◌, ◌-◌, ◌⊎◌, List, [], length, Some, slice_get}
use Rattle.std.specs.Str.{chars}
use Rattle.cell_grid.specs.declared.entry.Entry.{Entry}
use Rattle.cell_grid.specs.Rows.{DrawnRow}
use Rattle.cell_grid.specs.Grids.{DrawnGrid, IsDrawn}
use Rattle.caret.specs.declared.caret.Caret.{Caret}
use Rattle.caret.specs.Moves.{over_to_right, over_to_left, right_of, left_of}
use Rattle.caret.specs.Places.{gap_zero, before_cluster, behind_cluster, caret_at}

-- a move, made a number of times
abbrev pub moved : (Caret → Caret) → (steps : ℕ) → Caret → Caret
moved move zero caret = caret
moved move (suc steps) caret = move (moved move steps caret)

-- the caret stands at this gap of this row
pub record StandsAt (caret : Caret) (r g : ℕ) : Type 0 where
  pub row : caret.row ≡ r
  pub gap : caret.gap ≡ g

-- a step inside a row crosses one entry: to the right the one right of the caret's gap, to the left the one left of it
abbrev pub CrossesOneEntry : Type 0
CrossesOneEntry =
    (rows : List DrawnRow) (row : DrawnRow) (entry : Entry) (caret : Caret) → slice_get rows caret.row ≡ Some row
    → (slice_get row.entries caret.gap ≡ Some entry → right_of rows caret ≡ over_to_right caret entry)
    × (0 < caret.gap → slice_get row.entries (caret.gap - 1) ≡ Some entry → left_of rows caret ≡ over_to_left caret entry)

-- from gap 0 a number of steps to the right leads to the gap of that number, and from gap n as many to the left lead to the gap that far from it
abbrev pub VisitsEveryGap : Type 0
VisitsEveryGap =
    (rows : List DrawnRow) (row : DrawnRow) (number place steps : ℕ) → slice_get rows number ≡ Some row → steps ≤ length row.entries
    → StandsAt (moved (right_of rows) steps (record { row = number; gap = 0; place = place })) number steps
    × StandsAt (moved (left_of rows) steps (record { row = number; gap = length row.entries; place = place })) number (length row.entries - steps)

-- a step inside a row and then its opposite give back row and gap
abbrev pub UndoneByOpposite : Type 0
UndoneByOpposite =
    (rows : List DrawnRow) (row : DrawnRow) (caret : Caret) → slice_get rows caret.row ≡ Some row
    → (caret.gap < length row.entries → StandsAt (left_of rows (right_of rows caret)) caret.row caret.gap)
    × (0 < caret.gap → caret.gap ≤ length row.entries → StandsAt (right_of rows (left_of rows caret)) caret.row caret.gap)

-- the caret stands before the cluster that has place p, with the cluster's start as place
pub record StandsBeforeCluster (grid : DrawnGrid) (p : ℕ) (caret : Caret) : Type 0 where
  pub row : DrawnRow
  pub row_is : slice_get grid.rows caret.row ≡ Some row
  pub number : ℕ
  pub entry : Entry
  pub entry_is : slice_get row.entries number ≡ Some entry
  pub from : entry.span.first_place ≤ p
  pub to : p < entry.span.end_place
  pub is : caret ≡ before_cluster caret.row (number, entry)

-- the caret stands after the cluster of a row that ends at this place
pub record StandsBehindCluster (row : DrawnRow) (end : ℕ) (caret : Caret) : Type 0 where
  pub number : ℕ
  pub entry : Entry
  pub entry_is : slice_get row.entries number ≡ Some entry
  pub ends : entry.span.end_place ≡ end
  pub is : caret ≡ behind_cluster caret.row (number, entry)

-- the caret stands in the last row, after the cluster that ends with the text, or in an empty row
pub record StandsBehindText (grid : DrawnGrid) (end : ℕ) (caret : Caret) : Type 0 where
  pub row : DrawnRow
  pub row_is : slice_get grid.rows caret.row ≡ Some row
  pub last : caret.row + 1 ≡ length grid.rows
  pub is : ((row.entries ≡ []) × (caret ≡ gap_zero caret.row end)) ⊎ StandsBehindCluster row end caret

-- each place of a drawn text has its cluster, and the text's end the last one
abbrev pub EachPlaceHasItsCaret : Type 0
EachPlaceHasItsCaret =
    (grid : DrawnGrid) (p : ℕ) → IsDrawn grid
    → (p < length (chars grid.text) → StandsBeforeCluster grid p (caret_at grid p))
    × (p ≡ length (chars grid.text) → StandsBehindText grid p (caret_at grid p))
