-- What an editor shows, and where its caret goes.
use Rattle.std.specs.Prelude.{ℕ, zero, suc, List, encode_utf8_all}
use Rattle.rga_tree.specs.TextOf.{text}
use Rattle.cell_grid.specs.Rows.{DrawnRow}
use Rattle.cell_grid.specs.Grids.{DrawnGrid}
use Rattle.caret.specs.declared.position.Position.{Position}
use Rattle.caret.specs.Moves.{right_of}
use Rattle.caret.specs.Positions.{position_moved}
use Rattle.live_document.specs.Documents.{LiveDocument, window_round}

-- the rows of a document's picture from one above the row of a place to two below it
abbrev pub seen_round : LiveDocument → (place : ℕ) → DrawnGrid
seen_round d place = record { tables = d.tables; text = encode_utf8_all (text d.desk.set); rows = (window_round d place 1 2).rows }

-- the position after this many steps to the right
abbrev pub position_right : List DrawnRow → (steps : ℕ) → Position → Position
position_right rows zero position = position
position_right rows (suc steps) position = position_moved right_of rows (position_right rows steps position)
