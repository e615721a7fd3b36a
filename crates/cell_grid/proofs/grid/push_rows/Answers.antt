-- Each row is shifted to where its paragraph stands.
use Rattle.std.proofs.Common.{◌∷◌, [], ◌++◌, length, map, map-id, sym, ap, subst, ◌∙◌, append-nil, append_assoc}
use Rattle.std.proofs.lemmas.List.{map-append}
use Rattle.std.proofs.lemmas.Iterator.Adapters.{YieldsList-from_vec}
use Rattle.std.proofs.lemmas.Iterator.Consumers.{YieldsList-turn, YieldsList-end}
use Rattle.cell_grid.specs.Rows.{shifted}
use Rattle.cell_grid.specs.Shifting.{MayShiftRow}
use Rattle.cell_grid.proofs.grid.push_rows.Goals as goal

pub loop-row-init : goal.loop-row-init
loop-row-init c = c.in_ok-reserve.ensures.items ∙ sym (append-nil c.args.drawn.now.items)

pub shift-requires : goal.shift-requires
shift-requires c =
    let into = c.into_iter-row-iterator.ensures.into_iter_gives in
    let list = YieldsList-from_vec {s = c.into_iter-row-iterator.result} c.in_ok-made.made.items into.0 (into.1 ∙ c.in_ok-made.made.ok.0) in
    let turn = YieldsList-turn list c.loop-row.yielded c.loop-row.row-iterator c.loop-row.yielded_by c.next.result c.next.new.self c.in-Some.row c.in-Some.is c.next.ensures.steps in
    let p = c.args.para.now in
    let may = c.in_ok-made.ensures.may_shift p.first_byte p.first_place c.requires.para.bytes c.requires.para.places in
    let here = subst (MayShiftRow p.first_byte p.first_place) (sym turn.1) (may (length c.loop-row.yielded) c.in-Some.row turn.0) in
    subst (λ n. MayShiftRow n c.first_place.result c.in-Some.row) (sym c.first_byte.ensures) (subst (λ n. MayShiftRow p.first_byte n c.in-Some.row) (sym c.first_place.ensures) here)

pub loop-row-preserved : goal.loop-row-preserved
loop-row-preserved c =
    let f = shifted c.args.para.now.first_byte c.args.para.now.first_place in
    let done = c.args.drawn.now.items in
    let row = c.in-Some.row in
    c.in_ok-push.ensures.items
    ∙ ap (λ l. l ++ c.shift.new.self ∷ []) c.loop-row.invariant
    ∙ append_assoc done (map f c.loop-row.yielded) (c.shift.new.self ∷ [])
    ∙ ap (λ r. done ++ (map f c.loop-row.yielded ++ r ∷ []))
    (c.shift.ensures ∙ ap (λ n. shifted n c.first_place.result row) c.first_byte.ensures ∙ ap (λ n. shifted c.args.para.now.first_byte n row) c.first_place.ensures)
    ∙ sym (ap (λ l. done ++ l) (map-append f c.loop-row.yielded (row ∷ [])))

pub returns : goal.returns
returns c =
    let f = shifted c.args.para.now.first_byte c.args.para.now.first_place in
    let into = c.into_iter-row-iterator.ensures.into_iter_gives in
    let list = YieldsList-from_vec {s = c.into_iter-row-iterator.result} c.in_ok-made.made.items into.0 (into.1 ∙ c.in_ok-made.made.ok.0) in
    let end = YieldsList-end list c.loop-row.yielded c.loop-row.row-iterator c.loop-row.yielded_by c.next.result c.next.new.self c.in-None.is c.next.ensures.steps in
    c.loop-row.invariant ∙ ap (λ l. c.args.drawn.now.items ++ map f l) (sym (map-id c.loop-row.yielded) ∙ end.0 ∙ c.in_ok-made.ensures.rows)
