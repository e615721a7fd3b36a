-- The place has its position among the rows that are shown.
use Rattle.std.proofs.Common.{◌≡◌, true, List, sym, ap, ap₂, subst, ◌∙◌}
use Rattle.cell_grid.specs.Rows.{DrawnRow}
use Rattle.cell_grid.specs.Windows.{FirstPlacesRise, begins_by}
use Rattle.caret.specs.Gaps.{IsCaretOf}
use Rattle.caret.specs.Places.{caret_among}
use Rattle.caret.specs.Positions.{position_of, IsPositionOf}
use Rattle.live_document.specs.Documents.{whole_grid}
use Rattle.live_document.proofs.Positions.{shown-rises, shown-begun, shown-position_at, shown-caret}
use Rattle.live_document.proofs.document.Document.position_at.Goals as goal

pub rows_round-requires-clause-place : goal.rows_round-requires-clause-place
rows_round-requires-clause-place c = λ whole. c.requires

pub at_place_among-requires-clause-rises : goal.at_place_among-requires-clause-rises
at_place_among-requires-clause-rises c =
    let d = c.args.self.now in
    let place = c.args.place in
    let seen = c.in_ok-rows.ensures.copies in
    subst FirstPlacesRise (sym (c.deref-2.ensures.value ∙ seen)) (shown-rises c.laws_below.ensures (whole_grid d) c.in_ok-rows.ensures.whole place 0)

pub at_place_among-requires-clause-begun : goal.at_place_among-requires-clause-begun
at_place_among-requires-clause-begun c =
    let d = c.args.self.now in
    let place = c.args.place in
    let seen = c.in_ok-rows.ensures.copies in
    subst (λ (l : List DrawnRow). begins_by l place 0 ≡ true) (sym (c.deref-2.ensures.value ∙ seen)) (shown-begun c.laws_below.ensures (whole_grid d) c.in_ok-rows.ensures.whole place 0)

pub returns-clause-position : goal.returns-clause-position
returns-clause-position c =
    let d = c.args.self.now in
    let place = c.args.place in
    let seen = c.in_ok-rows.ensures.copies in
    c.of.ensures
    ∙ ap₂ (λ (l : List DrawnRow) k. position_of l k) (c.deref.ensures.value ∙ seen)
    (c.at_place_among.ensures.caret ∙ ap (λ (l : List DrawnRow). caret_among l place) (c.deref-2.ensures.value ∙ seen))
    ∙ shown-position_at c.laws_below.ensures (whole_grid d) c.in_ok-rows.ensures.whole place 0

pub returns-clause-stands : goal.returns-clause-stands
returns-clause-stands c =
    let d = c.args.self.now in
    let place = c.args.place in
    let caret = c.at_place_among.result in
    let seen = c.in_ok-rows.ensures.copies in
    let within = subst (λ (l : List DrawnRow). IsCaretOf l caret) (c.deref-2.ensures.value ∙ seen) c.at_place_among.ensures.within in
    subst (IsPositionOf (whole_grid d).rows) (sym (c.of.ensures ∙ ap (λ (l : List DrawnRow). position_of l caret) (c.deref.ensures.value ∙ seen)))
    (shown-caret c.laws_below.ensures (whole_grid d) c.in_ok-rows.ensures.whole place 0 caret within)
