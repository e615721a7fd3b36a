-- The move looks at no row but the neighbours.
use Rattle.std.proofs.Common.{List, sym, ap, ap₂, subst, ◌∙◌}
use Rattle.cell_grid.specs.Rows.{DrawnRow}
use Rattle.cell_grid.specs.Windows.{FirstPlacesRise}
use Rattle.caret.specs.Gaps.{IsCaretOf}
use Rattle.caret.specs.Moves.{up_of}
use Rattle.caret.specs.Positions.{caret_of, position_of, IsPositionOf}
use Rattle.live_document.specs.Documents.{whole_grid}
use Rattle.live_document.proofs.Positions.{position-place, shown-rises, shown-caret, near-stands, near-moves, near-moved}
use Rattle.live_document.proofs.document.Document.up.Goals as goal

pub rows_round-requires-clause-place : goal.rows_round-requires-clause-place
rows_round-requires-clause-place c = λ whole. position-place c.laws_below.ensures c.args.self.now whole c.args.position c.requires

pub caret_among-caret-requires-clause-rises : goal.caret_among-caret-requires-clause-rises
caret_among-caret-requires-clause-rises c =
    let d = c.args.self.now in
    let p = c.args.position in
    let seen = c.in_ok-rows.ensures.copies in
    subst FirstPlacesRise (sym (c.deref.ensures.value ∙ seen)) (shown-rises c.laws_below.ensures (whole_grid d) c.in_ok-rows.ensures.whole p.row 1)

pub caret_among-caret-requires-clause-stands : goal.caret_among-caret-requires-clause-stands
caret_among-caret-requires-clause-stands c =
    let d = c.args.self.now in
    let p = c.args.position in
    let seen = c.in_ok-rows.ensures.copies in
    subst (λ (rows : List DrawnRow). IsPositionOf rows p) (sym (c.deref.ensures.value ∙ seen)) (near-stands c.laws_below.ensures (whole_grid d) c.in_ok-rows.ensures.whole p c.requires)

pub returns-clause-position : goal.returns-clause-position
returns-clause-position c =
    let d = c.args.self.now in
    let p = c.args.position in
    let below = c.laws_below.ensures in
    let drawn = c.in_ok-rows.ensures.whole in
    let seen = c.in_ok-rows.ensures.copies in
    c.of.ensures
    ∙ ap₂ (λ (l : List DrawnRow) k. position_of l k) (c.deref-2.ensures.value ∙ seen)
    (c.up_among.ensures.caret
    ∙ ap₂ (λ (l : List DrawnRow) k. up_of l k) (c.deref-3.ensures.value ∙ seen)
    (c.caret_among-caret.ensures.caret ∙ ap (λ (l : List DrawnRow). caret_of l p) (c.deref.ensures.value ∙ seen)))
    ∙ near-moved below (whole_grid d) drawn p c.requires up_of (near-moves below (whole_grid d) drawn p c.requires).up

pub returns-clause-stands : goal.returns-clause-stands
returns-clause-stands c =
    let d = c.args.self.now in
    let p = c.args.position in
    let moved = c.up_among.result in
    let seen = c.in_ok-rows.ensures.copies in
    let within = subst (λ (l : List DrawnRow). IsCaretOf l moved) (c.deref-3.ensures.value ∙ seen) c.up_among.ensures.within in
    subst (IsPositionOf (whole_grid d).rows) (sym (c.of.ensures ∙ ap (λ (l : List DrawnRow). position_of l moved) (c.deref-2.ensures.value ∙ seen)))
    (shown-caret c.laws_below.ensures (whole_grid d) c.in_ok-rows.ensures.whole p.row 1 moved within)
