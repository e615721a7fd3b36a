-- Positions among the rows of a window are those among all rows.
use Rattle.std.proofs.Common.{◌≡◌, ℕ, zero, suc, ◌+◌, ◌≤◌, true, List, [], ◌∷◌, ◌++◌, ◌-◌, ◌<◌, length, get_or, Option, Some, refl, sym, ap, ◌∙◌, arith}
use Rattle.std.proofs.lemmas.Option.{slice_get-get_or}
use Rattle.std.proofs.lemmas.Str.{chars_from_encodes}
use Rattle.std.specs.Option.{option_map_or}
use Rattle.std.specs.Prelude.{slice_get, encode_utf8_all}
use Rattle.bg_types.specs.declared.class.Base.{Base}
use Rattle.unicode_tables.specs.Tables.{TableValues}
use Rattle.rga_tree.specs.TextOf as desk_text
use Rattle.desk_replica.specs.Desk.{Desk}
use Rattle.paragraphs.specs.Text.{code_points}
use Rattle.cell_grid.specs.Rows.{DrawnRow}
use Rattle.cell_grid.specs.Grids.{DrawnGrid, grid_of, IsDrawn}
use Rattle.cell_grid.specs.Laws.{RowsFollow}
use Rattle.cell_grid.specs.Windows.{FirstPlacesRise, begins_by, row_at, window_of}
use Rattle.caret.specs.declared.caret.Caret.{Caret}
use Rattle.caret.specs.declared.position.Position.{Position}
use Rattle.caret.specs.Gaps.{IsCaretOf, last_gap_by, gap_place}
use Rattle.caret.specs.Moves.{caret_by, caret_under}
use Rattle.caret.specs.Positions.{position_of, position_at, position_moved, IsPositionOf, MovesInWindow}
use Rattle.live_document.specs.Documents.{LiveDocument, whole_grid, window_round, IsDrawnAlike}
use Rattle.live_document.specs.LawsBelow.{LawsBelow}
use Rattle.live_document.proofs.Followed.{text-count}
use Rattle.live_document.proofs.Printed.{a_row}
use Rattle.live_document.proofs.Windows.{first-begins}
use Rattle.live_document.proofs.Round.{own-within, front, seen, rest, parts, seen-size, seen-row, has-seen, seen-rises, seen-begun, position-seen, position-whole}

rows-upto : (rows : List DrawnRow) (from to k : ℕ) (row : DrawnRow) → RowsFollow from rows to → slice_get rows k ≡ Some row → row.first_place ≤ to
rows-upto [] from to k row follow is = cc
rows-upto (r ∷ rows) from to zero row follow is =
    let same : r ≡ row = cc in
    let first = ap (λ (x : DrawnRow). x.first_place) same in
    let order = follow.1 in
    let later = ends rows r.last_place to follow.2 in
    omega arith
  where
    ends : (rows : List DrawnRow) (from to : ℕ) → RowsFollow from rows to → from ≤ to
    ends [] from to follow = omega (arith, follow)
    ends (s ∷ rows) from to follow = let a = follow.0 in let b = follow.1 in let c = ends rows s.last_place to follow.2 in omega arith
rows-upto (r ∷ rows) from to (suc k) row follow is = rows-upto rows r.last_place to k row follow.2 is

-- the position by a column of a row
under-is : (rows : List DrawnRow) (number column : ℕ) (row : DrawnRow) → slice_get rows number ≡ Some row
    → position_of rows (caret_under rows number column) ≡ record { row = row.first_place; gap = last_gap_by row column; place = gap_place row (last_gap_by row column) }
under-is rows number column row is =
    ap (λ (o : Option DrawnRow). position_of rows (option_map_or (caret_by column number) o (record { row = number; gap = 0; place = 0 }))) is
    ∙ ap (λ (o : Option DrawnRow). let p : Position = record { row = option_map_or (λ (r : DrawnRow). r.first_place) o 0; gap = last_gap_by row column; place = gap_place row (last_gap_by row column) } in p) is

module _ (below : LawsBelow) (g : DrawnGrid) (drawn : IsDrawn g) where
  pub whole-rises : FirstPlacesRise g.rows
  whole-rises = below.places_rise g drawn

  pub whole-begun : (place : ℕ) → begins_by g.rows place 0 ≡ true
  whole-begun place = first-begins g.rows 0 (length (code_points g.text)) place (below.whole_follow g drawn) (below.whole_some g drawn) (omega arith)

  -- a position's row begins in the text
  pub position-within : (position : Position) → IsPositionOf g.rows position → position.row ≤ length (code_points g.text)
  position-within position stands =
      let upto = rows-upto g.rows 0 (length (code_points g.text)) (row_at g.rows position.row) stands.row (below.whole_follow g drawn) stands.is in
      let first = stands.first in
      omega arith

  -- what the window round a place shows
  module _ (place around : ℕ) where
    abbrev pub shown : List DrawnRow
    shown = seen g.rows whole-rises place (whole-begun place) around around

    pub shown-rises : FirstPlacesRise shown
    shown-rises = seen-rises g.rows whole-rises place (whole-begun place) around around

    pub shown-begun : begins_by shown place 0 ≡ true
    shown-begun = seen-begun g.rows whole-rises place (whole-begun place) around around

    pub shown-position_at : position_at shown place ≡ position_at g.rows place
    shown-position_at =
        let rows = g.rows in
        let rises = whole-rises in
        let begun = whole-begun place in
        sym (ap (λ l. position_at l place) (parts rows rises place begun around around)
        ∙ below.place_in_stretch (front rows rises place begun around around) shown (rest rows rises place begun around around) around around place (has-seen rows rises place begun around around))

    pub shown-stands : (position : Position) → IsPositionOf shown position → IsPositionOf g.rows position
    shown-stands position stands = position-whole g.rows whole-rises place (whole-begun place) around around position stands

    pub shown-caret : (caret : Caret) → IsCaretOf shown caret → IsPositionOf g.rows (position_of shown caret)
    shown-caret caret stands = shown-stands (position_of shown caret) ((below.positions shown shown-rises).to_position caret stands)

  -- where no row above or below is shown, the place's row is number 0
  module _ (place : ℕ) where
    abbrev pub alone : List DrawnRow
    alone = shown place 0

    pub alone-some : 0 < length alone
    alone-some =
        let size = seen-size g.rows whole-rises place (whole-begun place) 0 0 in
        let within = own-within g.rows whole-rises place (whole-begun place) in
        omega arith

    pub alone-under : (column : ℕ) → position_of alone (caret_under alone 0 column) ≡ position_of g.rows (caret_under g.rows (row_at g.rows place) column)
    alone-under column =
        let row = get_or alone 0 a_row in
        let here = slice_get-get_or alone 0 a_row alone-some in
        let number : row_at g.rows place - 0 + 0 ≡ row_at g.rows place = omega arith in
        let there = ap (slice_get g.rows) (sym number) ∙ sym (seen-row g.rows whole-rises place (whole-begun place) 0 0 0 alone-some) ∙ here in
        under-is alone 0 column row here ∙ sym (under-is g.rows (row_at g.rows place) column row there)

  module _ (position : Position) (stands : IsPositionOf g.rows position) where
    abbrev pub near : List DrawnRow
    near = shown position.row 1

    pub near-stands : IsPositionOf near position
    near-stands = position-seen g.rows whole-rises position.row (whole-begun position.row) 1 1 position refl stands

    whole : g.rows ≡ front g.rows whole-rises position.row (whole-begun position.row) 1 1 ++ (near ++ rest g.rows whole-rises position.row (whole-begun position.row) 1 1)
    whole = parts g.rows whole-rises position.row (whole-begun position.row) 1 1

    pub near-moves : MovesInWindow (front g.rows whole-rises position.row (whole-begun position.row) 1 1) near (rest g.rows whole-rises position.row (whole-begun position.row) 1 1) position
    near-moves =
        below.moves_in_stretch (front g.rows whole-rises position.row (whole-begun position.row) 1 1) near (rest g.rows whole-rises position.row (whole-begun position.row) 1 1) position
        (has-seen g.rows whole-rises position.row (whole-begun position.row) 1 1) near-stands

    -- a move that comes to the same among these rows
    pub near-moved : (move : List DrawnRow → Caret → Caret)
        → position_moved move (front g.rows whole-rises position.row (whole-begun position.row) 1 1 ++ (near ++ rest g.rows whole-rises position.row (whole-begun position.row) 1 1)) position
        ≡ position_moved move near position
        → position_moved move near position ≡ position_moved move g.rows position
    near-moved move alike = sym (ap (λ l. position_moved move l position) whole ∙ alike)

-- ---- of a document

-- one with the same desk that is drawn alike has the same grid
pub whole-alike : (old new : LiveDocument) → new.desk ≡ old.desk → IsDrawnAlike old new → whole_grid new ≡ whole_grid old
whole-alike old new desk alike =
    ap (λ (d : Desk). grid_of new.tables new.width new.base (encode_utf8_all (desk_text.text d.set))) desk
    ∙ ap (λ (t : TableValues). grid_of t new.width new.base (encode_utf8_all (desk_text.text old.desk.set))) alike.tables
    ∙ ap (λ w. grid_of old.tables w new.base (encode_utf8_all (desk_text.text old.desk.set))) alike.width
    ∙ ap (λ (b : Base). grid_of old.tables old.width b (encode_utf8_all (desk_text.text old.desk.set))) alike.base

pub position-place : (below : LawsBelow) (d : LiveDocument) → IsDrawn (whole_grid d) → (position : Position) → IsPositionOf (whole_grid d).rows position
    → position.row ≤ length (desk_text.visible d.desk.set)
position-place below d drawn position stands =
    let within = position-within below (whole_grid d) drawn position stands in
    let points = ap length (chars_from_encodes (desk_text.text d.desk.set) (encode_utf8_all (desk_text.text d.desk.set)) drawn.utf8 refl) in
    let count = text-count d.desk.set in
    omega arith

pub seen-alike : (old new : LiveDocument) (place around : ℕ) → new.desk ≡ old.desk → IsDrawnAlike old new
    → (window_round new place around around).rows ≡ (window_round old place around around).rows
seen-alike old new place around desk alike = ap (λ (g : DrawnGrid). (window_of around around place g.rows).rows) (whole-alike old new desk alike)
