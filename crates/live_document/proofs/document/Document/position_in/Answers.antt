-- The place's row is the one that is shown.
use Rattle.std.proofs.Common.{◌<◌, List, length, sym, ap, ap₂, subst, ◌∙◌}
use Rattle.cell_grid.specs.Rows.{DrawnRow}
use Rattle.caret.specs.Gaps.{IsCaretOf}
use Rattle.caret.specs.Moves.{caret_under}
use Rattle.caret.specs.Positions.{position_of, IsPositionOf}
use Rattle.live_document.specs.Documents.{whole_grid}
use Rattle.live_document.proofs.Positions.{shown-caret, alone-some, alone-under}
use Rattle.live_document.proofs.document.Document.position_in.Goals as goal

pub rows_round-requires-clause-place : goal.rows_round-requires-clause-place
rows_round-requires-clause-place c = λ whole. c.requires

pub at_column_among-requires : goal.at_column_among-requires
at_column_among-requires c =
    let d = c.args.self.now in
    let place = c.args.place in
    let seen = c.in_ok-rows.ensures.copies in
    subst (λ (l : List DrawnRow). 0 < length l) (sym (c.deref-2.ensures.value ∙ seen)) (alone-some c.laws_below.ensures (whole_grid d) c.in_ok-rows.ensures.whole place)

pub returns-clause-position : goal.returns-clause-position
returns-clause-position c =
    let d = c.args.self.now in
    let place = c.args.place in
    let seen = c.in_ok-rows.ensures.copies in
    c.of.ensures
    ∙ ap₂ (λ (l : List DrawnRow) k. position_of l k) (c.deref.ensures.value ∙ seen)
    (c.at_column_among.ensures.caret ∙ ap (λ (l : List DrawnRow). caret_under l 0 c.args.column) (c.deref-2.ensures.value ∙ seen))
    ∙ alone-under c.laws_below.ensures (whole_grid d) c.in_ok-rows.ensures.whole place c.args.column

pub returns-clause-stands : goal.returns-clause-stands
returns-clause-stands c =
    let d = c.args.self.now in
    let place = c.args.place in
    let caret = c.at_column_among.result in
    let seen = c.in_ok-rows.ensures.copies in
    let within = subst (λ (l : List DrawnRow). IsCaretOf l caret) (c.deref-2.ensures.value ∙ seen) c.at_column_among.ensures.within in
    subst (IsPositionOf (whole_grid d).rows) (sym (c.of.ensures ∙ ap (λ (l : List DrawnRow). position_of l caret) (c.deref.ensures.value ∙ seen)))
    (shown-caret c.laws_below.ensures (whole_grid d) c.in_ok-rows.ensures.whole place 0 caret within)
