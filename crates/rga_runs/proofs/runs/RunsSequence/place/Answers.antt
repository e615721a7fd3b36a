-- The goals of `place` that are answered by hand.
use Rattle.std.proofs.Common.{◌≡◌, ◌+◌, ◌-◌, ◌≤◌, ◌∙◌, true, sym, ap, refl, length, arith}
use Rattle.std.specs.Prelude.{insert, vec_len}
use Rattle.std.proofs.lemmas.List.Edits.{length-insert}
use Rattle.rga_tree.specs.declared.element.Element.{Element}
use Rattle.rga_tree.specs.Row.{place_of}
use Rattle.rga_tree.specs.Spot.{seen}
use Rattle.rga_tree.proofs.Interface.{placing, start_within, has_row, seen-insert, weight_le, place_in_row as place_within}
use Rattle.rga_runs.specs.Stretches.{elements_in, are_stored}
use Rattle.rga_runs.specs.Counters.{are_up_to}
use Rattle.rga_runs.proofs.Counters.{up_more, up_insert}
use Rattle.rga_runs.specs.Indexed.{stretches_in, stretches_for}
use Rattle.rga_runs.proofs.Rows.{length-row, parent_placed, visible_le}
use Rattle.rga_runs.proofs.Spots.{less_room}
use Rattle.rga_runs.proofs.Taken.{few_stretches, two_for, room_for_less}
use Rattle.rga_runs.proofs.Whole.{kept_apart, all_outside, seen_elements}
use Rattle.rga_runs.proofs.runs.RunsSequence.place.Goals as goal

pub put-requires-clause-parent : goal.put-requires-clause-parent
put-requires-clause-parent c = parent_placed c.args.self.now.characters.items (stretches_in c.args.self.now.row) c.args.parent c.requires.parent

pub put-requires-clause-apart : goal.put-requires-clause-apart
put-requires-clause-apart c = kept_apart c.args.self.now.characters.items (stretches_in c.args.self.now.row) c.args.self.now.stored c.args.self.now.keeps_walk

pub put-requires-clause-new : goal.put-requires-clause-new
put-requires-clause-new c =
    let self = c.args.self.now in
    let chars = self.characters.items in
    let ss = stretches_in self.row in
    all_outside c.args.id chars ss self.stored (kept_apart chars ss self.stored self.keeps_walk) (sym (has_row (elements_in chars ss) c.args.id) ∙ c.requires.new)

pub put-requires-clause-room : goal.put-requires-clause-room
put-requires-clause-room c =
    let self = c.args.self.now in
    let ss = stretches_in self.row in
    let few : length ss ≤ vec_len self.characters = omega (arith, few_stretches self.characters.items ss self.stored, self.counted) in
    less_room self.row (stretches_for self.room (vec_len self.characters) (length ss)) 2 (two_for self.room (vec_len self.characters) (length ss) (omega (arith, c.requires.room)) few) self.enough

pub overflow_add-self : goal.overflow_add-self
overflow_add-self c =
    let self = c.args.self.now in
    let ss = stretches_in self.row in
    omega (arith, self.visible_are, visible_le ss, length-row self.characters.items ss self.stored, self.counted, self.few, c.weight.ensures, weight_le c.args.hidden)

pub invariant_of-self : goal.invariant_of-self
invariant_of-self c =
    let self = c.args.self.now in
    let chars = self.characters.items in
    let ss = stretches_in self.row in
    let more = c.push_reserved.new.self in
    let new = stretches_in c.put.new.row in
    let row = elements_in chars ss in
    let n : Element = record { id = c.args.id; parent = c.args.parent; ch = c.args.ch; hidden = c.args.hidden } in
    let start = start_within row c.args.parent c.requires.parent in
    let at = place_of c.args.parent c.args.id row in
    let end : length chars ≡ c.len.result = omega (arith, c.len.ensures, self.characters.ok) in
    let new_row : elements_in more.items new ≡ insert row at n = ap (λ cs. elements_in cs new) c.push_reserved.ensures.items ∙ c.put.ensures.elements chars c.args.ch end self.keeps_walk in
    let step = placing row (elements_in more.items new) n at self.keeps_walk c.requires.parent (c.counter-known.ensures.identifier, c.requires.before, c.ranges.ch.0) c.requires.new start refl new_row in
    let longer : length more.items ≡ c.len.result + 1 = omega (arith, more.ok, c.push_reserved.ensures.len, c.len.ensures) in
    let stored : are_stored (length more.items) new ≡ true = ap (λ m. are_stored m new) longer ∙ c.put.ensures.stored in
    let long = length-insert row at n (place_within c.args.parent c.args.id row start) in
    let counted : vec_len more ≡ length (elements_in more.items new) = omega (arith, ap length new_row, long, self.counted, c.push_reserved.ensures.len) in
    record {
      keeps_walk = step.0;
      stored = stored;
      indexed = c.put.ensures.indexed;
      counted = counted;
      visible_are = omega (arith, self.visible_are, seen_elements chars ss self.stored, seen_elements more.items new stored, ap seen new_row, seen-insert row at n, c.weight.ensures);
      up_to = ap (are_up_to c.max-self.result) new_row
          ∙ up_insert c.max-self.result row at n (up_more self.highest c.max-self.result row (omega (arith, c.max-self.ensures)) self.up_to) (omega (arith, c.max-self.ensures, c.counter-known.ensures.value));
      enough = room_for_less self.room (self.room - 1) (vec_len self.characters) (vec_len more) self.row c.put.new.row (omega (arith, c.requires.room)) (omega (arith, c.push_reserved.ensures.len, c.requires.room))
          (omega (arith, few_stretches more.items new stored, counted)) c.put.ensures.room self.enough;
      enough_characters = omega (arith, self.enough_characters, c.requires.room, c.push_reserved.ensures.len, c.push_reserved.ensures.capacity);
      few = omega (arith, self.few, c.requires.room, c.push_reserved.ensures.len);
    }

pub returns-clause-content : goal.returns-clause-content
returns-clause-content c =
    let self = c.args.self.now in
    let chars = self.characters.items in
    let ss = stretches_in self.row in
    let more = c.push_reserved.new.self in
    let new = stretches_in c.put.new.row in
    let row = elements_in chars ss in
    let n : Element = record { id = c.args.id; parent = c.args.parent; ch = c.args.ch; hidden = c.args.hidden } in
    let start = start_within row c.args.parent c.requires.parent in
    let at = place_of c.args.parent c.args.id row in
    let end : length chars ≡ c.len.result = omega (arith, c.len.ensures, self.characters.ok) in
    let new_row : elements_in more.items new ≡ insert row at n = ap (λ cs. elements_in cs new) c.push_reserved.ensures.items ∙ c.put.ensures.elements chars c.args.ch end self.keeps_walk in
    let step = placing row (elements_in more.items new) n at self.keeps_walk c.requires.parent (c.counter-known.ensures.identifier, c.requires.before, c.ranges.ch.0) c.requires.new start refl new_row in
    step.1
