-- The lines that a walk of a caret writes.
use Rattle.std.specs.Prelude.{◌++◌, ℕ, List, [], ◌∷◌, decimal}
use Rattle.std.specs.List.{flat_map, join_with_byte}
use Rattle.cell_grid.specs.Rows.{DrawnRow}
use Rattle.cell_grid.specs.Grids.{DrawnGrid}
use Rattle.caret.specs.declared.caret.Caret.{Caret}
use Rattle.caret.specs.Moves.{right_of, left_of, up_of, down_of}
use Rattle.caret.specs.Places.{caret_at}
use Rattle.caret.specs.declared.moves.Move.{Move}
use Rattle.caret.specs.declared.moves.Move.TheVariants.{Left, Right, Up, Down}

-- the caret after a move
abbrev pub moved : List DrawnRow → Caret → Move → Caret
moved rows caret Left = left_of rows caret
moved rows caret Right = right_of rows caret
moved rows caret Up = up_of rows caret
moved rows caret Down = down_of rows caret

-- the carets of a walk: the first one, and one after each move
abbrev pub walk : List DrawnRow → Caret → List Move → List Caret
walk rows caret [] = caret ∷ []
walk rows caret (m ∷ moves) = caret ∷ walk rows (moved rows caret m) moves

-- `row gap place`, ended by LF
abbrev pub caret_line : Caret → List ℕ
caret_line caret = join_with_byte 32 (decimal caret.row ∷ decimal caret.gap ∷ decimal caret.place ∷ []) ++ 10 ∷ []

-- a line for the caret at a place of a grid, and one after each move
abbrev pub walk_lines : DrawnGrid → (place : ℕ) → List Move → List ℕ
walk_lines grid place moves = flat_map caret_line (walk grid.rows (caret_at grid place) moves)
