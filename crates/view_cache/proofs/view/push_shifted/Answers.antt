-- Each copy is put at the end.
use Rattle.std.proofs.Common.{◌++◌, ◌∷◌, [], map, take, append_assoc, sym, ap, subst, ◌∙◌}
use Rattle.std.proofs.lemmas.List.{map-append}
use Rattle.cell_grid.specs.Rows.{shifted}
use Rattle.cell_grid.specs.Shifting.{MayShiftRow}
use Rattle.cell_grid.proofs.Interface.{take-next, take-whole}
use Rattle.view_cache.proofs.view.push_shifted.Goals as goal

pub shifted-requires : goal.shifted-requires
shifted-requires c =
    let p = c.args.para.now in
    let row = c.row-item.result in
    let here = subst (MayShiftRow p.first_byte p.first_place) (sym c.row-item.is) (c.requires.may c.loop-row.row-index row c.loop-row-test.true) in
    subst (λ n. MayShiftRow n c.first_place.result row) (sym c.first_byte.ensures) (subst (λ n. MayShiftRow p.first_byte n row) (sym c.first_place.ensures) here)

pub loop-row-preserved : goal.loop-row-preserved
loop-row-preserved c =
    let p = c.args.para.now in
    let rows = c.args.rows.now in
    let i = c.loop-row.row-index in
    let row = c.row-item.result in
    let before = c.args.drawn.now.items in
    let f = shifted p.first_byte p.first_place in
    let made = c.in_ok-copy.ensures ∙ ap (λ n. shifted n c.first_place.result row) c.first_byte.ensures ∙ ap (λ n. shifted p.first_byte n row) c.first_place.ensures in
    c.in_ok-push.ensures.items
    ∙ ap (λ l. l ++ c.in_ok-copy.copy ∷ []) c.loop-row.invariant
    ∙ ap (λ r. (before ++ map f (take i rows)) ++ r ∷ []) made
    ∙ append_assoc before (map f (take i rows)) (f row ∷ [])
    ∙ ap (λ l. before ++ l) (sym (ap (map f) (take-next rows i row row c.loop-row-test.true c.row-item.is) ∙ map-append f (take i rows) (row ∷ [])))

pub returns : goal.returns
returns c =
    let p = c.args.para.now in
    c.loop-row.invariant
    ∙ ap (λ l. c.args.drawn.now.items ++ map (shifted p.first_byte p.first_place) l) (take-whole c.args.rows.now c.loop-row.row-index c.loop-row-test.false)
