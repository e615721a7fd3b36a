-- Each copy is put at the end.
use Rattle.std.proofs.Common.{◌++◌, ◌∷◌, [], map, take, append_assoc, append-nil, sym, ap, subst, ◌∙◌}
use Rattle.std.proofs.lemmas.List.{map-append}
use Rattle.std.specs.List.{All}
use Rattle.cell_grid.specs.Rows.{shifted}
use Rattle.cell_grid.specs.Shifting.{MayShiftRow}
use Rattle.cell_grid.proofs.Interface.{take-next, take-whole}
use Rattle.layout_tests.proofs.cell_grid_tests.from_rows.push_copies.Goals as goal

pub loop-row-init : goal.loop-row-init
loop-row-init c = sym (append-nil c.args.made.now.items)

pub shifted-requires : goal.shifted-requires
shifted-requires c =
    let p = c.args.para.now in
    let row = c.row-item.result in
    let may = subst (All (MayShiftRow p.first_byte p.first_place)) (sym c.deref-row-items.ensures.value)
    (c.in_ok-own.ensures.may_shift p.first_byte p.first_place c.requires.para.bytes c.requires.para.places) in
    let here = subst (MayShiftRow p.first_byte p.first_place) (sym c.row-item.is) (may c.loop-row.row-index row c.loop-row-test.true) in
    subst (λ n. MayShiftRow n c.first_place.result row) (sym c.first_byte.ensures) (subst (λ n. MayShiftRow p.first_byte n row) (sym c.first_place.ensures) here)

pub loop-row-preserved : goal.loop-row-preserved
loop-row-preserved c =
    let p = c.args.para.now in
    let items = c.deref-row-items.result.now in
    let i = c.loop-row.row-index in
    let row = c.row-item.result in
    let before = c.args.made.now.items in
    let f = shifted p.first_byte p.first_place in
    let copied = c.in_ok-copy.ensures ∙ ap (λ n. shifted n c.first_place.result row) c.first_byte.ensures ∙ ap (λ n. shifted p.first_byte n row) c.first_place.ensures in
    c.in_ok-push.ensures.items
    ∙ ap (λ l. l ++ c.in_ok-copy.copy ∷ []) c.loop-row.invariant
    ∙ ap (λ r. (before ++ map f (take i items)) ++ r ∷ []) copied
    ∙ append_assoc before (map f (take i items)) (f row ∷ [])
    ∙ ap (λ l. before ++ l) (sym (ap (map f) (take-next items i row row c.loop-row-test.true c.row-item.is) ∙ map-append f (take i items) (row ∷ [])))

pub returns : goal.returns
returns c =
    let p = c.args.para.now in
    c.loop-row.invariant
    ∙ ap (λ l. c.args.made.now.items ++ map (shifted p.first_byte p.first_place) l)
    (take-whole c.deref-row-items.result.now c.loop-row.row-index c.loop-row-test.false ∙ c.deref-row-items.ensures.value ∙ c.in_ok-own.ensures.rows)
