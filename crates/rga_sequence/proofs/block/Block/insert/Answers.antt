-- The goals of `insert` that are answered by hand.
use Rattle.std.proofs.Common.{◌≡◌, ◌≤◌, ◌+◌, ◌∙◌, true, refl, sym, ap, subst, length, arith}
use Rattle.std.specs.Prelude.{insert, vec_len, vec_capacity}
use Rattle.rga_tree.specs.declared.element.Element.{Element}
use Rattle.rga_tree.proofs.Interface.{seen-insert, weight_le}
use Rattle.rga_sequence.specs.Blocks.{seen, is_least, FallsFrom}
use Rattle.rga_sequence.proofs.Grown.{seen_le, least-insert}
use Rattle.std.proofs.lemmas.List.Edits.{length-insert}
use Rattle.rga_sequence.proofs.block.Block.insert.Goals as goal

pub overflow_add-self : goal.overflow_add-self
overflow_add-self c = omega (arith, c.args.self.now.counted, seen_le c.args.self.now.elements.items, c.requires.room, c.weight.ensures, weight_le c.args.hidden)

pub insert_element-requires-clause-room : goal.insert_element-requires-clause-room
insert_element-requires-clause-room c = omega (arith, c.requires.room, c.args.self.now.room)

pub invariant_of-self : goal.invariant_of-self
invariant_of-self c =
    let es = c.args.self.now.elements in
    let n : Element = record { id = c.args.id; parent = c.args.parent; ch = c.args.ch; hidden = c.args.hidden } in
    let items : c.insert_element.new.row.items ≡ insert es.items c.args.at n = c.insert_element.ensures.items in
    let long = length-insert es.items c.args.at n c.requires.within in
    let few : vec_len c.insert_element.new.row ≤ 512 = omega (arith, c.insert_element.new.row.ok, ap length items, long, c.requires.room) in
    let room : 512 ≤ vec_capacity c.insert_element.new.row = omega (arith, c.args.self.now.room, c.insert_element.ensures.capacity) in
    let counted : c.args.self.now.visible + c.weight.result ≡ seen c.insert_element.new.row.items =
    (λ i. c.args.self.now.counted i + c.weight.ensures i) ∙ sym (seen-insert es.items c.args.at n) ∙ ap seen (sym items) in
    let least : is_least c.lesser-self.result c.insert_element.new.row.items ≡ true =
    (λ i. is_least (c.lesser-self.ensures i) (items i)) ∙ least-insert es.items c.args.at n c.args.self.now.least c.args.self.now.least_is in
    let within : c.falling_with-self.result ≤ vec_len c.insert_element.new.row =
    omega (arith, c.falling_with-self.ensures.from, ap length c.deref.ensures.value, c.insert_element.new.row.ok, ap length items, long) in
    let falls = subst (FallsFrom c.falling_with-self.result) (ap (λ r. insert r c.args.at n) c.deref.ensures.value ∙ sym items) (c.falling_with-self.ensures.falls n refl) in
    record { few = few; room = room; counted = counted; least_is = least; falling_within = within; falls = falls }
