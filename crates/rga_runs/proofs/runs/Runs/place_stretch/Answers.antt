-- The goals of `place_stretch` that are answered by hand.
use Rattle.std.proofs.Common.{◌≡◌, ◌+◌, ◌-◌, ◌≤◌, ◌∷◌, ◌∙◌, suc, true, false, sym, ap, refl, length, take, arith}
use Rattle.std.specs.Prelude.{insert, vec_len}
use Rattle.std.specs.Str.{chars}
use Rattle.std.specs.Str.Iter.{chars_rest}
use Rattle.std.proofs.lemmas.Str.{scalars-chars}
use Rattle.std.proofs.lemmas.List.{length-take-le}
use Rattle.rga_tree.specs.Row.{operations_of, place_of}
use Rattle.rga_tree.specs.Spot.{seen}
use Rattle.rga_tree.specs.Run.{AreNew}
use Rattle.rga_tree.proofs.Interface.{has_row, next_new}
use Rattle.rga_runs.specs.Stretches.{elements_in, are_stored}
use Rattle.rga_runs.specs.Counters.{are_up_to}
use Rattle.rga_runs.specs.Indexed.{stretches_in, stretches_for}
use Rattle.rga_runs.proofs.Counters.{up_more}
use Rattle.rga_runs.proofs.RunPut.{one_put, others_outside, all_put, run_put}
use Rattle.rga_runs.proofs.Rows.{length-row, parent_placed, visible_le}
use Rattle.rga_runs.proofs.Spots.{less_room}
use Rattle.rga_runs.proofs.Taken.{few_stretches, two_for, both_taken, room_for_less}
use Rattle.rga_runs.proofs.TakenIn.{length-put_in, seen-put_in, up-put_in, scalars-take}
use Rattle.rga_runs.proofs.Whole.{kept_apart, all_outside, seen_elements}
use Rattle.rga_runs.proofs.runs.Runs.place_stretch.Goals as goal

pub put-requires-clause-parent : goal.put-requires-clause-parent
put-requires-clause-parent c = parent_placed c.args.self.now.characters.items (stretches_in c.args.self.now.row) c.args.parent c.requires.parent

pub put-requires-clause-apart : goal.put-requires-clause-apart
put-requires-clause-apart c = kept_apart c.args.self.now.characters.items (stretches_in c.args.self.now.row) c.args.self.now.stored c.args.self.now.keeps_walk

pub put-requires-clause-new : goal.put-requires-clause-new
put-requires-clause-new c =
    let self = c.args.self.now in
    let chars0 = self.characters.items in
    let ss = stretches_in self.row in
    let row = elements_in chars0 ss in
    all_outside c.args.id chars0 ss self.stored (kept_apart chars0 ss self.stored self.keeps_walk) (sym (has_row row c.args.id) ∙ next_new (operations_of row) c.args.id 1 (omega arith) (λ k less. c.requires.new k (omega (arith, less))))

pub put-requires-clause-room : goal.put-requires-clause-room
put-requires-clause-room c =
    let self = c.args.self.now in
    let ss = stretches_in self.row in
    let few : length ss ≤ vec_len self.characters = omega (arith, few_stretches self.characters.items ss self.stored, self.counted) in
    less_room self.row (stretches_for self.room (vec_len self.characters) (length ss)) 2 (two_for self.room (vec_len self.characters) (length ss) (omega (arith, c.requires.room)) few) self.enough

pub take_in-more-requires-clause-stored : goal.take_in-more-requires-clause-stored
take_in-more-requires-clause-stored c =
    let self = c.args.self.now in
    let chars0 = self.characters.items in
    let ss = stretches_in self.row in
    let row = elements_in chars0 ss in
    let id = c.args.id in
    let parent = c.args.parent in
    let ch = c.args.ch in
    let rest = chars (chars_rest c.args.left.now) in
    let more = c.push_reserved.new.self in
    let ss1 = stretches_in c.put.new.row in
    let row1 = elements_in more.items ss1 in
    let end : length chars0 ≡ c.len.result = omega (arith, c.len.ensures, self.characters.ok) in
    let row1_is : row1 ≡ insert row (place_of parent id row) (record { id = id; parent = parent; ch = ch; hidden = false }) = ap (λ cs. elements_in cs ss1) c.push_reserved.ensures.items ∙ c.put.ensures.elements chars0 ch end self.keeps_walk in
    let longer : length more.items ≡ c.len.result + 1 = omega (arith, more.ok, c.push_reserved.ensures.len, c.len.ensures) in
    let stored : are_stored (length more.items) ss1 ≡ true = ap (λ m. are_stored m ss1) longer ∙ c.put.ensures.stored in
    let is = c.counter-known.ensures.identifier in
    let first : AreNew (operations_of row) id 1 = λ k less. c.requires.new k (omega (arith, less)) in
    let one = one_put row row1 id parent ch self.keeps_walk c.requires.parent is c.requires.before c.ranges.ch.0 first row1_is in
    stored

pub take_in-more-requires-clause-new : goal.take_in-more-requires-clause-new
take_in-more-requires-clause-new c =
    let self = c.args.self.now in
    let chars0 = self.characters.items in
    let ss = stretches_in self.row in
    let row = elements_in chars0 ss in
    let id = c.args.id in
    let parent = c.args.parent in
    let ch = c.args.ch in
    let rest = chars (chars_rest c.args.left.now) in
    let more = c.push_reserved.new.self in
    let ss1 = stretches_in c.put.new.row in
    let row1 = elements_in more.items ss1 in
    let end : length chars0 ≡ c.len.result = omega (arith, c.len.ensures, self.characters.ok) in
    let row1_is : row1 ≡ insert row (place_of parent id row) (record { id = id; parent = parent; ch = ch; hidden = false }) = ap (λ cs. elements_in cs ss1) c.push_reserved.ensures.items ∙ c.put.ensures.elements chars0 ch end self.keeps_walk in
    let longer : length more.items ≡ c.len.result + 1 = omega (arith, more.ok, c.push_reserved.ensures.len, c.len.ensures) in
    let stored : are_stored (length more.items) ss1 ≡ true = ap (λ m. are_stored m ss1) longer ∙ c.put.ensures.stored in
    let is = c.counter-known.ensures.identifier in
    let first : AreNew (operations_of row) id 1 = λ k less. c.requires.new k (omega (arith, less)) in
    let one = one_put row row1 id parent ch self.keeps_walk c.requires.parent is c.requires.before c.ranges.ch.0 first row1_is in
    others_outside row row1 id parent ch self.keeps_walk c.requires.parent is c.requires.before c.ranges.ch.0 first row1_is (length rest) more.items ss1 (λ k less. c.requires.new k (omega (arith, less))) stored (kept_apart more.items ss1 stored one.0) refl

pub take_in-more-requires-clause-apart : goal.take_in-more-requires-clause-apart
take_in-more-requires-clause-apart c =
    let self = c.args.self.now in
    let chars0 = self.characters.items in
    let ss = stretches_in self.row in
    let row = elements_in chars0 ss in
    let id = c.args.id in
    let parent = c.args.parent in
    let ch = c.args.ch in
    let rest = chars (chars_rest c.args.left.now) in
    let more = c.push_reserved.new.self in
    let ss1 = stretches_in c.put.new.row in
    let row1 = elements_in more.items ss1 in
    let end : length chars0 ≡ c.len.result = omega (arith, c.len.ensures, self.characters.ok) in
    let row1_is : row1 ≡ insert row (place_of parent id row) (record { id = id; parent = parent; ch = ch; hidden = false }) = ap (λ cs. elements_in cs ss1) c.push_reserved.ensures.items ∙ c.put.ensures.elements chars0 ch end self.keeps_walk in
    let longer : length more.items ≡ c.len.result + 1 = omega (arith, more.ok, c.push_reserved.ensures.len, c.len.ensures) in
    let stored : are_stored (length more.items) ss1 ≡ true = ap (λ m. are_stored m ss1) longer ∙ c.put.ensures.stored in
    let is = c.counter-known.ensures.identifier in
    let first : AreNew (operations_of row) id 1 = λ k less. c.requires.new k (omega (arith, less)) in
    let one = one_put row row1 id parent ch self.keeps_walk c.requires.parent is c.requires.before c.ranges.ch.0 first row1_is in
    kept_apart more.items ss1 stored one.0

pub overflow_add-self-2 : goal.overflow_add-self-2
overflow_add-self-2 c =
    let self = c.args.self.now in
    let ss = stretches_in self.row in
    omega (arith, self.visible_are, visible_le ss, length-row self.characters.items ss self.stored, self.counted, self.few, c.requires.room, c.take_in-more.ensures.within)

pub invariant_of-self : goal.invariant_of-self
invariant_of-self c =
    let self = c.args.self.now in
    let chars0 = self.characters.items in
    let ss = stretches_in self.row in
    let row = elements_in chars0 ss in
    let id = c.args.id in
    let parent = c.args.parent in
    let ch = c.args.ch in
    let rest = chars (chars_rest c.args.left.now) in
    let more = c.push_reserved.new.self in
    let ss1 = stretches_in c.put.new.row in
    let row1 = elements_in more.items ss1 in
    let end : length chars0 ≡ c.len.result = omega (arith, c.len.ensures, self.characters.ok) in
    let row1_is : row1 ≡ insert row (place_of parent id row) (record { id = id; parent = parent; ch = ch; hidden = false }) = ap (λ cs. elements_in cs ss1) c.push_reserved.ensures.items ∙ c.put.ensures.elements chars0 ch end self.keeps_walk in
    let longer : length more.items ≡ c.len.result + 1 = omega (arith, more.ok, c.push_reserved.ensures.len, c.len.ensures) in
    let stored : are_stored (length more.items) ss1 ≡ true = ap (λ m. are_stored m ss1) longer ∙ c.put.ensures.stored in
    let is = c.counter-known.ensures.identifier in
    let first : AreNew (operations_of row) id 1 = λ k less. c.requires.new k (omega (arith, less)) in
    let one = one_put row row1 id parent ch self.keeps_walk c.requires.parent is c.requires.before c.ranges.ch.0 first row1_is in
    let n = c.take_in-more.result in
    let cs = take n rest in
    let chars2 = c.take_in-more.new.characters.items in
    let ss2 = stretches_in c.take_in-more.new.row in
    let row2 = elements_in chars2 ss2 in
    let few : length cs ≡ n = length-take-le n rest c.take_in-more.ensures.within in
    let all = all_put row row1 id parent ch self.keeps_walk c.requires.parent is c.requires.before c.ranges.ch.0 first row1_is row2 cs c.take_in-more.ensures.elements in
    let done = run_put row row1 id parent ch self.keeps_walk c.requires.parent is c.requires.before c.ranges.ch.0 first row1_is row2 cs c.take_in-more.ensures.elements
    (λ k less. c.requires.new k (omega (arith, less, few, c.take_in-more.ensures.within))) (omega (arith, c.requires.counters, few, c.take_in-more.ensures.within)) (scalars-take n rest (scalars-chars (chars_rest c.args.left.now) c.requires.utf8)) in
    let at = place_of parent id row in
    let long : length row2 ≡ length row + suc (length cs) = ap length all ∙ length-put_in row at id parent (ch ∷ cs) in
    let shown : seen row2 ≡ seen row + suc (length cs) = ap seen all ∙ seen-put_in row at id parent (ch ∷ cs) in
    let counted : vec_len c.take_in-more.new.characters ≡ length row2 = omega (arith, long, few, self.counted, c.push_reserved.ensures.len, c.take_in-more.ensures.len) in
    let top = c.max-self.result in
    record {
      keeps_walk = done.0;
      stored = c.take_in-more.ensures.stored;
      indexed = c.take_in-more.ensures.indexed;
      counted = counted;
      visible_are = omega (arith, self.visible_are, seen_elements chars0 ss self.stored, seen_elements chars2 ss2 c.take_in-more.ensures.stored, shown, few);
      up_to = ap (are_up_to top) all
          ∙ up-put_in top row at id parent (ch ∷ cs) (up_more self.highest top row (omega (arith, c.max-self.ensures)) self.up_to) (omega (arith, c.max-self.ensures, c.counter-known.ensures.value, few));
      enough = room_for_less self.room (self.room - (1 + n)) (vec_len self.characters) (vec_len c.take_in-more.new.characters) self.row c.take_in-more.new.row (omega (arith, c.requires.room))
          (omega (arith, c.push_reserved.ensures.len, c.take_in-more.ensures.len, c.requires.room, c.take_in-more.ensures.within))
          (omega (arith, few_stretches chars2 ss2 c.take_in-more.ensures.stored, counted)) (both_taken 2 0 self.row c.put.new.row c.take_in-more.new.row c.put.ensures.room c.take_in-more.ensures.room) self.enough;
      enough_characters = omega (arith, self.enough_characters, c.requires.room, c.push_reserved.ensures.len, c.push_reserved.ensures.capacity, c.take_in-more.ensures.len, c.take_in-more.ensures.capacity, c.take_in-more.ensures.within);
      few = omega (arith, self.few, c.requires.room, c.push_reserved.ensures.len, c.take_in-more.ensures.len, c.take_in-more.ensures.within);
    }

pub returns-clause-content : goal.returns-clause-content
returns-clause-content c =
    let self = c.args.self.now in
    let chars0 = self.characters.items in
    let ss = stretches_in self.row in
    let row = elements_in chars0 ss in
    let id = c.args.id in
    let parent = c.args.parent in
    let ch = c.args.ch in
    let rest = chars (chars_rest c.args.left.now) in
    let more = c.push_reserved.new.self in
    let ss1 = stretches_in c.put.new.row in
    let row1 = elements_in more.items ss1 in
    let end : length chars0 ≡ c.len.result = omega (arith, c.len.ensures, self.characters.ok) in
    let row1_is : row1 ≡ insert row (place_of parent id row) (record { id = id; parent = parent; ch = ch; hidden = false }) = ap (λ cs. elements_in cs ss1) c.push_reserved.ensures.items ∙ c.put.ensures.elements chars0 ch end self.keeps_walk in
    let longer : length more.items ≡ c.len.result + 1 = omega (arith, more.ok, c.push_reserved.ensures.len, c.len.ensures) in
    let stored : are_stored (length more.items) ss1 ≡ true = ap (λ m. are_stored m ss1) longer ∙ c.put.ensures.stored in
    let is = c.counter-known.ensures.identifier in
    let first : AreNew (operations_of row) id 1 = λ k less. c.requires.new k (omega (arith, less)) in
    let one = one_put row row1 id parent ch self.keeps_walk c.requires.parent is c.requires.before c.ranges.ch.0 first row1_is in
    let n = c.take_in-more.result in
    let cs = take n rest in
    let chars2 = c.take_in-more.new.characters.items in
    let ss2 = stretches_in c.take_in-more.new.row in
    let row2 = elements_in chars2 ss2 in
    let few : length cs ≡ n = length-take-le n rest c.take_in-more.ensures.within in
    let all = all_put row row1 id parent ch self.keeps_walk c.requires.parent is c.requires.before c.ranges.ch.0 first row1_is row2 cs c.take_in-more.ensures.elements in
    let done = run_put row row1 id parent ch self.keeps_walk c.requires.parent is c.requires.before c.ranges.ch.0 first row1_is row2 cs c.take_in-more.ensures.elements
    (λ k less. c.requires.new k (omega (arith, less, few, c.take_in-more.ensures.within))) (omega (arith, c.requires.counters, few, c.take_in-more.ensures.within)) (scalars-take n rest (scalars-chars (chars_rest c.args.left.now) c.requires.utf8)) in
    done.1
