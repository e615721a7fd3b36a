-- Positions: carets by the first place of their row, and moves among some of a grid's rows.
use Rattle.std.specs.Prelude.{◌≡◌, ℕ, ◌≤◌, List, ◌++◌, length, slice_get, Some}
use Rattle.std.specs.Option.{option_map_or}
use Rattle.cell_grid.specs.Rows.{DrawnRow}
use Rattle.cell_grid.specs.Windows.{row_at}
use Rattle.caret.specs.declared.caret.Caret.{Caret}
use Rattle.caret.specs.declared.position.Position.{Position}
use Rattle.caret.specs.Gaps.{IsCaretOf}
use Rattle.caret.specs.Moves.{right_of, left_of, up_of, down_of}
use Rattle.caret.specs.Places.{caret_among}

-- the position of a caret of these rows
abbrev pub position_of : List DrawnRow → Caret → Position
position_of rows caret = record { row = option_map_or (λ (r : DrawnRow). r.first_place) (slice_get rows caret.row) 0; gap = caret.gap; place = caret.place }

-- the caret of a position: in the row of its first place
abbrev pub caret_of : List DrawnRow → Position → Caret
caret_of rows position = record { row = row_at rows position.row; gap = position.gap; place = position.place }

-- one of these rows begins there and has the gap
pub record IsPositionOf (rows : List DrawnRow) (position : Position) : Type 0 where
  pub row : DrawnRow
  pub is : slice_get rows (row_at rows position.row) ≡ Some row
  pub first : row.first_place ≡ position.row
  pub gap : position.gap ≤ length row.entries

-- the positions of rows that rise are their carets: each caret has one, which gives it back, and the other way round
pub record PositionsAreCarets (rows : List DrawnRow) : Type 0 where
  pub to_position : (caret : Caret) → IsCaretOf rows caret → IsPositionOf rows (position_of rows caret)
  pub back : (caret : Caret) → IsCaretOf rows caret → caret_of rows (position_of rows caret) ≡ caret
  pub to_caret : (position : Position) → IsPositionOf rows position → IsCaretOf rows (caret_of rows position)
  pub forth : (position : Position) → IsPositionOf rows position → position_of rows (caret_of rows position) ≡ position

-- the position of place p among rows
abbrev pub position_at : List DrawnRow → ℕ → Position
position_at rows p = position_of rows (caret_among rows p)

-- a move of a caret, of a position
abbrev pub position_moved : (List DrawnRow → Caret → Caret) → List DrawnRow → Position → Position
position_moved move rows position = position_of rows (move rows (caret_of rows position))

-- this move of a position comes to the same among these rows as among all
abbrev pub MovesAlike : (List DrawnRow → Caret → Caret) → (all rows : List DrawnRow) → Position → Type 0
MovesAlike move all rows position = position_moved move all position ≡ position_moved move rows position

-- a position of a part of the rows is one of all rows, and the moves look at no row but its own and its neighbours
pub record MovesInWindow (before rows after : List DrawnRow) (position : Position) : Type 0 where
  pub among_all : IsPositionOf (before ++ (rows ++ after)) position
  pub right : MovesAlike right_of (before ++ (rows ++ after)) rows position
  pub left : MovesAlike left_of (before ++ (rows ++ after)) rows position
  pub up : MovesAlike up_of (before ++ (rows ++ after)) rows position
  pub down : MovesAlike down_of (before ++ (rows ++ after)) rows position
