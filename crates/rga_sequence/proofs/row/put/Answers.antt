-- The goals of `put` that are answered by hand.
use Rattle.std.proofs.Common.{◌≡◌, ◌+◌, ◌∙◌, sym, ap}
use Rattle.std.specs.Prelude.{insert}
use Rattle.rga_tree.specs.declared.element.Element.{Element}
use Rattle.rga_tree.specs.Row.{place_of}
use Rattle.rga_sequence.specs.Blocks.{offset, sought}
use Rattle.rga_sequence.specs.BlockRows.{has, items_of}
use Rattle.rga_sequence.specs.Indexed.{blocks_in, elements_in}
use Rattle.rga_sequence.proofs.row.put.Goals as goal

pub make_room-q-requires-clause-distinct : goal.make_room-q-requires-clause-distinct
make_room-q-requires-clause-distinct c = c.requires.keeps_walk.distinct

pub put_into-requires-clause-new : goal.put_into-requires-clause-new
put_into-requires-clause-new c = ap (has c.args.id) c.make_room-q.ensures.elements ∙ c.requires.new

pub put_into-requires-clause-room : goal.put_into-requires-clause-room
put_into-requires-clause-room c = c.make_room-q.ensures.room 1 c.requires.room

pub returns-else-is_empty-clause-elements : goal.returns-else-is_empty-clause-elements
returns-else-is_empty-clause-elements c =
    let row = c.args.row.now in
    let n : Element = record { id = c.args.id; parent = c.args.parent; ch = c.args.ch; hidden = c.args.hidden } in
    let same = c.deref.ensures.value in
    let sought_is = ap (λ bs. sought c.args.id (items_of bs) c.start-p.result.0 c.start-p.result.1) same in
    let found = ap (λ bs. offset (items_of bs) c.place_from-q.result.0 c.place_from-q.result.1) (sym same) in
    let at : offset (blocks_in c.make_room-q.new.row) c.make_room-q.result.0 c.make_room-q.result.1 ≡ place_of c.args.parent c.args.id (elements_in row) =
    c.make_room-q.ensures.place ∙ found ∙ c.place_from-q.ensures.place ∙ sought_is ∙ c.start-p.ensures.place in
    c.put_into.ensures.elements ∙ (λ i. insert (c.make_room-q.ensures.elements i) (at i) n)

pub returns-else-is_empty-clause-room : goal.returns-else-is_empty-clause-room
returns-else-is_empty-clause-room c = λ n room. c.put_into.ensures.room n (c.make_room-q.ensures.room (n + 1) room)
