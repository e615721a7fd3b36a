-- The goals of `place` that are answered by hand.
use Rattle.std.proofs.Common.{◌≡◌, ◌+◌, ◌-◌, ◌∙◌, sym, ap, subst, refl, length, arith}
use Rattle.std.proofs.lemmas.List.Edits.{length-insert}
use Rattle.rga_tree.specs.declared.element.Element.{Element}
use Rattle.rga_tree.specs.Row.{place_of}
use Rattle.rga_tree.proofs.Interface.{placing, start_within, has_row, seen-insert, weight_le, place_in_row as place_within}
use Rattle.rga_sequence.specs.Blocks.{seen}
use Rattle.rga_sequence.specs.Indexed.{elements_in, HasRoom}
use Rattle.rga_sequence.proofs.Grown.{seen_le}
use Rattle.rga_sequence.proofs.Whole.{less_room}
use Rattle.rga_sequence.proofs.blocks.BlocksSequence.place.Goals as goal

pub put-requires-clause-parent : goal.put-requires-clause-parent
put-requires-clause-parent c = start_within (elements_in c.args.self.now.row) c.args.parent c.requires.parent

pub put-requires-clause-new : goal.put-requires-clause-new
put-requires-clause-new c = sym (has_row (elements_in c.args.self.now.row) c.args.id) ∙ c.requires.new

pub put-requires-clause-room : goal.put-requires-clause-room
put-requires-clause-room c = less_room c.args.self.now.row c.args.self.now.room 1 c.args.self.now.enough c.requires.room

pub overflow_add-self : goal.overflow_add-self
overflow_add-self c =
    let self = c.args.self.now in
    omega (arith, self.placed_are, self.enough.paid, self.enough.few, c.requires.room)

pub overflow_add-self-2 : goal.overflow_add-self-2
overflow_add-self-2 c =
    let self = c.args.self.now in
    omega (arith, self.visible_are, seen_le (elements_in self.row), self.enough.paid, self.enough.few, c.weight.ensures, weight_le c.args.hidden)

pub invariant_of-self : goal.invariant_of-self
invariant_of-self c =
    let row = elements_in c.args.self.now.row in
    let n : Element = record { id = c.args.id; parent = c.args.parent; ch = c.args.ch; hidden = c.args.hidden } in
    let start = start_within row c.args.parent c.requires.parent in
    let at = place_of c.args.parent c.args.id row in
    let step = placing row (elements_in c.put.new.row) n at c.args.self.now.keeps_walk c.requires.parent (c.counter-known.ensures.identifier, c.requires.before, c.ranges.ch.0) c.requires.new start refl c.put.ensures.elements in
    let counted : c.args.self.now.visible + c.weight.result ≡ seen (elements_in c.put.new.row) =
    (λ i. c.args.self.now.visible_are i + c.weight.ensures i) ∙ sym (seen-insert row at n) ∙ ap seen (sym c.put.ensures.elements) in
    let long : length (elements_in c.put.new.row) ≡ length row + 1 = ap length c.put.ensures.elements ∙ length-insert row at n (place_within c.args.parent c.args.id row start) in
    let some : c.args.self.now.room ≡ c.args.self.now.room - 1 + 1 = omega (arith, c.requires.room) in
    record {
      keeps_walk = step.0;
      indexed = c.put.ensures.indexed;
      enough = c.put.ensures.room (c.args.self.now.room - 1) (subst (HasRoom c.args.self.now.row) some c.args.self.now.enough);
      placed_are = omega (arith, c.args.self.now.placed_are, long);
      visible_are = counted;
    }

pub returns-clause-content : goal.returns-clause-content
returns-clause-content c =
    let row = elements_in c.args.self.now.row in
    let n : Element = record { id = c.args.id; parent = c.args.parent; ch = c.args.ch; hidden = c.args.hidden } in
    let start = start_within row c.args.parent c.requires.parent in
    let at = place_of c.args.parent c.args.id row in
    let step = placing row (elements_in c.put.new.row) n at c.args.self.now.keeps_walk c.requires.parent (c.counter-known.ensures.identifier, c.requires.before, c.ranges.ch.0) c.requires.new start refl c.put.ensures.elements in
    step.1
