-- The place's row is the one that is shown; a position begins in the text.
use Rattle.std.proofs.Common.{◌≡◌, true, List, length, refl, sym, ap, subst, ◌∙◌, arith}
use Rattle.std.proofs.lemmas.Bool.{OnTrue_at, OnTrue_from, OnFalse_at, OnFalse_from}
use Rattle.rga_tree.specs.TextOf.{visible}
use Rattle.desk_replica.specs.Desk.{Desk}
use Rattle.cell_grid.specs.Rows.{DrawnRow}
use Rattle.cell_grid.specs.Windows.{FirstPlacesRise, begins_by}
use Rattle.caret.specs.Positions.{IsPositionOf}
use Rattle.live_document.specs.Documents.{LiveDocument, whole_grid}
use Rattle.live_document.proofs.Cost.{laid-from, counted-from}
use Rattle.cell_grid.proofs.Interface.{on_err}
use Rattle.live_document.proofs.Round.{position-seen}
use Rattle.live_document.proofs.Positions.{seen-alike, position-place, whole-rises, whole-begun, shown-rises, shown-begun, shown-stands}
use Rattle.live_document.proofs.document.Document.holds.Goals as goal

pub returns-then-position-len-clause-no : goal.returns-then-position-len-clause-no
returns-then-position-len-clause-no c = λ stands.
    let within = position-place c.laws_below.ensures c.args.self.now c.in_ok-refresh.ensures.whole c.args.position stands in
    let inside = ap (λ (d : LiveDocument). length (visible d.desk.set)) c.self.view_is in
    let count = ap (λ (desk : Desk). length (visible desk.set)) c.refresh.ensures.desk in
    omega (arith, within, inside, count, c.len.ensures, c.if-position-len.true)

pub stands_among-requires-clause-rises : goal.stands_among-requires-clause-rises
stands_among-requires-clause-rises c =
    let d = c.args.self.now in
    let p = c.args.position in
    let seen = c.in_ok-rows.ensures.copies ∙ seen-alike d c.refresh.new.self p.row 0 c.refresh.ensures.desk c.refresh.ensures.drawn in
    subst FirstPlacesRise (sym (c.deref.ensures.value ∙ seen)) (shown-rises c.laws_below.ensures (whole_grid d) c.in_ok-refresh.ensures.whole p.row 0)

pub stands_among-requires-clause-begun : goal.stands_among-requires-clause-begun
stands_among-requires-clause-begun c =
    let d = c.args.self.now in
    let p = c.args.position in
    let seen = c.in_ok-rows.ensures.copies ∙ seen-alike d c.refresh.new.self p.row 0 c.refresh.ensures.desk c.refresh.ensures.drawn in
    subst (λ (l : List DrawnRow). begins_by l p.row 0 ≡ true) (sym (c.deref.ensures.value ∙ seen)) (shown-begun c.laws_below.ensures (whole_grid d) c.in_ok-refresh.ensures.whole p.row 0)

pub returns-clause-yes : goal.returns-clause-yes
returns-clause-yes c =
    let d = c.args.self.now in
    let p = c.args.position in
    let seen = c.in_ok-rows.ensures.copies ∙ seen-alike d c.refresh.new.self p.row 0 c.refresh.ensures.desk c.refresh.ensures.drawn in
    OnTrue_from c.stands_among.result _ (λ yes. shown-stands c.laws_below.ensures (whole_grid d) c.in_ok-refresh.ensures.whole p.row 0 p
    (subst (λ (l : List DrawnRow). IsPositionOf l p) (c.deref.ensures.value ∙ seen) (OnTrue_at yes c.stands_among.ensures.yes)))

pub returns-clause-no : goal.returns-clause-no
returns-clause-no c =
    let d = c.args.self.now in
    let p = c.args.position in
    let below = c.laws_below.ensures in
    let drawn = c.in_ok-refresh.ensures.whole in
    let seen = c.in_ok-rows.ensures.copies ∙ seen-alike d c.refresh.new.self p.row 0 c.refresh.ensures.desk c.refresh.ensures.drawn in
    OnFalse_from c.stands_among.result _ (λ no stands. OnFalse_at no c.stands_among.ensures.no
    (subst (λ (l : List DrawnRow). IsPositionOf l p) (sym (c.deref.ensures.value ∙ seen))
    (position-seen (whole_grid d).rows (whole-rises below (whole_grid d) drawn) p.row (whole-begun below (whole_grid d) drawn p.row) 0 0 p refl stands)))

pub returns-clause-within : goal.returns-clause-within
returns-clause-within c =
    let inside = ap (λ (d : LiveDocument). length (visible d.desk.set)) c.self.view_is in
    let count = ap (λ (desk : Desk). length (visible desk.set)) c.refresh.ensures.desk in
    OnTrue_from c.stands_among.result _ (λ yes. omega (arith, inside, count, c.len.ensures, c.if-position-len.false))

pub returns-clause-laid : goal.returns-clause-laid
returns-clause-laid c = λ within. laid-from c.refresh.new.self c.args.self.now c.rows_round.new.self c.args.position.row 0 0 c.refresh.ensures.paragraphs c.in_ok-rows.ensures.laid

pub returns-in_err-rows-clause-uncounted : goal.returns-in_err-rows-clause-uncounted
returns-in_err-rows-clause-uncounted c =
    on_err c.from_residual-in_err-rows.result (counted-from c.refresh.new.self c.args.self.now c.rows_round.new.self c.args.position.row 0 0 c.refresh.ensures.paragraphs c.refresh.ensures.laid c.in_err-rows.ensures.uncounted)
