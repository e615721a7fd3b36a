-- The goals of `put` that are answered by hand.
use Rattle.std.proofs.Common.{◌≡◌, ◌+◌, ◌++◌, ◌∷◌, ◌∙◌, [], List, true, length, take, drop, sym, ap, subst, refl, arith}
use Rattle.std.specs.Prelude.{insert}
use Rattle.std.proofs.lemmas.List.Elements.{All-nil}
use Rattle.bg_types.specs.Identifier.{Identifier}
use Rattle.bg_types.specs.declared.op.Place.{Place}
use Rattle.bg_types.specs.declared.op.Place.TheVariants.{Root, After}
use Rattle.rga_tree.specs.declared.element.Element.{Element}
use Rattle.rga_tree.specs.Row.{place_of}
use Rattle.rga_tree.specs.Spot.{joined}
use Rattle.rga_runs.specs.declared.block.Block.{Block}
use Rattle.rga_runs.specs.Stretches.{parts_in, are_stored, IsOutside, IsPlaced}
use Rattle.rga_runs.specs.Blocks.{row_of, at_spot, passed}
use Rattle.rga_runs.specs.BlockRows.{items_of}
use Rattle.rga_runs.specs.Bounds.{AreBounds}
use Rattle.rga_runs.specs.Indexed.{stretches_in}
use Rattle.rga_runs.proofs.Rows.{lands}
use Rattle.rga_runs.proofs.Taken.{more_taken, both_taken, room_left}
use Rattle.rga_runs.proofs.change.put.Goals as goal

-- nothing stands in an empty row, so that its first element is a child of the root
first_place : (p : Place) (id : Identifier) → IsPlaced p [] → place_of p id [] ≡ 0
first_place Root id placed = refl
first_place (After q) id placed = absurd (placed (All-nil (IsOutside q)))

nothing_more : (x : List Element) → x ++ [] ≡ x
nothing_more [] = refl
nothing_more (e ∷ x) = ap (λ l. e ∷ l) (nothing_more x)

pub passed_from-q-requires-clause-bounds : goal.passed_from-q-requires-clause-bounds
passed_from-q-requires-clause-bounds c =
    let new = c.beginning-b.new.row in
    subst (λ ms. AreBounds ms (items_of c.deref.result.now)) (sym c.deref-else-is_empty.ensures.value)
    (subst (λ bs. AreBounds new.bounds.items (items_of bs)) (sym c.deref.ensures.value) c.beginning-b.ensures.indexed.bounds)

pub put_at_spot-requires-clause-new : goal.put_at_spot-requires-clause-new
put_at_spot-requires-clause-new c = c.beginning-b.ensures.outside c.requires.new

pub put_at_spot-requires-clause-room : goal.put_at_spot-requires-clause-room
put_at_spot-requires-clause-room c = room_left 1 1 c.args.row.now _ c.beginning-b.ensures.room c.requires.room

pub returns-then-is_empty-clause-room : goal.returns-then-is_empty-clause-room
returns-then-is_empty-clause-room c = more_taken 1 2 c.args.row.now _ (omega arith) c.put_first.ensures.room

pub returns-else-is_empty-clause-elements : goal.returns-else-is_empty-clause-elements
returns-else-is_empty-clause-elements c = λ chars ch end keeps.
    let new = c.beginning-b.new.row in
    let ss = stretches_in new in
    let b = c.beginning-b.result.0 in
    let j = c.beginning-b.result.1 in
    let from = at_spot (items_of new.blocks.items) b j in
    let to = at_spot (items_of new.blocks.items) c.passed_from-q.result.0 c.passed_from-q.result.1 in
    let is = c.deref.ensures.value in
    let stored : are_stored (length chars) (stretches_in c.args.row.now) ≡ true = ap (λ n. are_stored n (stretches_in c.args.row.now)) end ∙ c.requires.stored in
    let reached : to ≡ from + passed c.args.id (drop from ss) =
    ap (λ (bs : List Block). at_spot (items_of bs) c.passed_from-q.result.0 c.passed_from-q.result.1) (sym is) ∙ c.passed_from-q.ensures.place
    ∙ ap (λ (bs : List Block). at_spot (items_of bs) b j + passed c.args.id (drop (at_spot (items_of bs) b j) (row_of (items_of bs)))) is in
    let place =
    ap (λ n. length (joined (take n (parts_in chars ss)))) reached
    ∙ lands c.args.id chars ss from (passed c.args.id (drop from ss)) (c.beginning-b.ensures.stored (length chars) stored) refl ∙ c.beginning-b.ensures.place chars stored keeps in
    c.put_at_spot.ensures.elements chars ch end
    ∙ (λ i. insert (c.beginning-b.ensures.elements chars i) (place i) (record { id = c.args.id; parent = c.args.parent; ch = ch; hidden = c.args.hidden }))

pub returns-else-is_empty-clause-room : goal.returns-else-is_empty-clause-room
returns-else-is_empty-clause-room c = both_taken 1 1 c.args.row.now _ _ c.beginning-b.ensures.room c.put_at_spot.ensures.room
