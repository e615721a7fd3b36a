-- The caret among a grid's rows is the grid's.
use Rattle.std.proofs.Common.{ap, sym, subst, ◌≡◌, true, ◌∙◌}
use Rattle.cell_grid.specs.Windows.{begins_by, FirstPlacesRise}
use Rattle.caret.specs.Gaps.{IsCaretOf}
use Rattle.caret.specs.Places.{caret_among}
use Rattle.caret.proofs.RowOrder.{begun-follow}
use Rattle.caret.proofs.CaretAt.{among-grid}
use Rattle.caret.proofs.place.at_place.Goals as goal

pub at_place_among-requires-clause-rises : goal.at_place_among-requires-clause-rises
at_place_among-requires-clause-rises c = subst FirstPlacesRise (sym c.rows.ensures.rows) (c.first_places_rise.ensures c.args.grid.now c.rows.ensures.drawn)

pub at_place_among-requires-clause-begun : goal.at_place_among-requires-clause-begun
at_place_among-requires-clause-begun c =
    let g = c.args.grid.now in
    let drawn = c.rows.ensures.drawn in
    subst (λ rows. begins_by rows c.args.place 0 ≡ true) (sym c.rows.ensures.rows) (begun-follow _ c.args.place g.rows (c.rows_follow.ensures.follow g drawn) (c.rows_follow.ensures.some g drawn))

pub returns-clause-caret : goal.returns-clause-caret
returns-clause-caret c =
    let g = c.args.grid.now in
    let drawn = c.rows.ensures.drawn in
    c.at_place_among.ensures.caret ∙ ap (λ rows. caret_among rows c.args.place) c.rows.ensures.rows
    ∙ among-grid g c.args.place (c.rows_follow.ensures.follow g drawn) (c.rows_follow.ensures.some g drawn)

pub returns-clause-within : goal.returns-clause-within
returns-clause-within c = subst (λ rows. IsCaretOf rows c.at_place_among.result) c.rows.ensures.rows c.at_place_among.ensures.within
