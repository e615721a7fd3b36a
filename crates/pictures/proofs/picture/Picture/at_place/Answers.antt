-- The caret among the rows is the picture's.
use Rattle.std.proofs.Common.{◌≡◌, ◌<◌, ℕ, true, List, [], ◌∷◌, length, sym, ap, subst, ◌∙◌, arith}
use Rattle.std.proofs.lemmas.Bool.{le-leb}
use Rattle.cell_grid.specs.Laws.{RowsFollow}
use Rattle.cell_grid.specs.Rows.{DrawnRow}
use Rattle.cell_grid.specs.Windows.{begins_by, FirstPlacesRise}
use Rattle.caret.specs.Gaps.{IsCaretOf}
use Rattle.caret.specs.Places.{caret_among}
use Rattle.pictures.proofs.picture.Picture.at_place.Goals as goal

-- row 0 of a picture begins by any place
begun : (to p : ℕ) (rows : List DrawnRow) → RowsFollow 0 rows to → 0 < length rows → begins_by rows p 0 ≡ true
begun to p [] follow some = absurd (omega arith)
begun to p (r ∷ rows) follow some = le-leb r.first_place p (omega (arith, follow.0))

pub at_place_among-requires-clause-rises : goal.at_place_among-requires-clause-rises
at_place_among-requires-clause-rises c = subst FirstPlacesRise (sym c.rows.ensures.rows) (c.first_places_rise.ensures c.args.self.now c.rows.ensures.drawn)

pub at_place_among-requires-clause-begun : goal.at_place_among-requires-clause-begun
at_place_among-requires-clause-begun c =
    let g = c.args.self.now in
    let drawn = c.rows.ensures.drawn in
    subst (λ rows. begins_by rows c.args.place 0 ≡ true) (sym c.rows.ensures.rows) (begun _ c.args.place g.rows (c.rows_follow.ensures.follow g drawn) (c.rows_follow.ensures.some g drawn))

pub returns-clause-caret : goal.returns-clause-caret
returns-clause-caret c =
    c.at_place_among.ensures.caret ∙ ap (λ rows. caret_among rows c.args.place) c.rows.ensures.rows
    ∙ c.places_in_windows.ensures.whole c.args.self.now c.args.place c.rows.ensures.drawn

pub returns-clause-within : goal.returns-clause-within
returns-clause-within c = subst (λ rows. IsCaretOf rows c.at_place_among.result) c.rows.ensures.rows c.at_place_among.ensures.within
