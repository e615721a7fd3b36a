-- The goals of `reserve` that are answered by hand.
use Rattle.std.proofs.Common.{◌≡◌, ◌∙◌, true, sym, ap, subst, length, arith}
use Rattle.std.specs.Prelude.{vec_len}
use Rattle.rga_tree.specs.KeepsWalk.{KeepsWalk}
use Rattle.rga_runs.specs.Stretches.{elements_in, are_stored, visible_in}
use Rattle.rga_runs.specs.Counters.{are_up_to}
use Rattle.rga_runs.specs.Blocks.{row_of}
use Rattle.rga_runs.specs.BlockRows.{items_of}
use Rattle.rga_runs.specs.Indexed.{stretches_in, stretches_for, HasRoom}
use Rattle.rga_runs.proofs.BlockLists.{few_stretches}
use Rattle.rga_runs.proofs.Taken.{most_for}
use Rattle.rga_runs.proofs.runs.RunsSequence.reserve.Goals as goal

pub make_memory-requires-clause-counted : goal.make_memory-requires-clause-counted
make_memory-requires-clause-counted c =
    let self = c.args.self.now in
    let room = self.enough in
    omega (arith, few_stretches self.row.blocks.items, self.row.blocks.ok, room.few, c.if-len-room.false, c.len.ensures, c.most_for-stretches.ensures, most_for c.max-room.result c.len-2.result self.row.count)

pub invariant_of-self : goal.invariant_of-self
invariant_of-self c =
    let self = c.args.self.now in
    let chars = self.characters.items in
    let ss = stretches_in self.row in
    let new = c.make_memory.new.row in
    let same : stretches_in new ≡ ss = ap (λ bs. row_of (items_of bs)) c.make_memory.ensures.blocks in
    let row : elements_in chars (stretches_in new) ≡ elements_in chars ss = ap (elements_in chars) same in
    let stored : are_stored (length chars) (stretches_in new) ≡ true = ap (are_stored (length chars)) same ∙ self.stored in
    record {
      keeps_walk = subst KeepsWalk (sym row) self.keeps_walk;
      stored = stored;
      indexed = c.make_memory.ensures.indexed;
      counted = omega (arith, self.counted, ap length row);
      visible_are = self.visible_are ∙ sym (ap visible_in same);
      up_to = ap (are_up_to self.highest) row ∙ self.up_to;
      enough = subst (HasRoom new) (ap (stretches_for self.room (vec_len self.characters)) (sym (ap length same))) (c.make_memory.ensures.kept (stretches_for self.room (vec_len self.characters) (length ss)) self.enough);
      enough_characters = self.enough_characters;
      few = self.few;
    }

pub invariant_of-self-in-Break-branch-2 : goal.invariant_of-self-in-Break-branch-2
invariant_of-self-in-Break-branch-2 c =
    let self = c.args.self.now in
    let chars = self.characters.items in
    let ss = stretches_in self.row in
    let more = c.reserve.new.self in
    let new = c.make_memory.new.row in
    let same : stretches_in new ≡ ss = ap (λ bs. row_of (items_of bs)) c.make_memory.ensures.blocks in
    let kept : more.items ≡ chars = c.reserve.ensures.items in
    let row : elements_in more.items (stretches_in new) ≡ elements_in chars ss = λ i. elements_in (kept i) (same i) in
    let stored : are_stored (length more.items) (stretches_in new) ≡ true = (λ i. are_stored (length (kept i)) (same i)) ∙ self.stored in
    let long : vec_len self.characters ≡ vec_len more = omega (arith, c.reserve.ensures.len) in
    record {
      keeps_walk = subst KeepsWalk (sym row) self.keeps_walk;
      stored = stored;
      indexed = c.make_memory.ensures.indexed;
      counted = omega (arith, c.reserve.ensures.len, self.counted, ap length row);
      visible_are = self.visible_are ∙ sym (ap visible_in same);
      up_to = ap (are_up_to self.highest) row ∙ self.up_to;
      enough = subst (HasRoom new) (λ i. stretches_for self.room (long i) (sym (ap length same) i)) (c.make_memory.ensures.kept (stretches_for self.room (vec_len self.characters) (length ss)) self.enough);
      enough_characters = omega (arith, self.enough_characters, c.reserve.ensures.len, c.reserve.ensures.capacity);
      few = omega (arith, self.few, c.reserve.ensures.len);
    }

pub invariant_of-self-2 : goal.invariant_of-self-2
invariant_of-self-2 c =
    let self = c.args.self.now in
    let chars = self.characters.items in
    let ss = stretches_in self.row in
    let more = c.reserve.new.self in
    let new = c.make_memory.new.row in
    let same : stretches_in new ≡ ss = ap (λ bs. row_of (items_of bs)) c.make_memory.ensures.blocks in
    let kept : more.items ≡ chars = c.reserve.ensures.items in
    let row : elements_in more.items (stretches_in new) ≡ elements_in chars ss = λ i. elements_in (kept i) (same i) in
    let stored : are_stored (length more.items) (stretches_in new) ≡ true = (λ i. are_stored (length (kept i)) (same i)) ∙ self.stored in
    let long : vec_len self.characters ≡ vec_len more = omega (arith, c.reserve.ensures.len) in
    record {
      keeps_walk = subst KeepsWalk (sym row) self.keeps_walk;
      stored = stored;
      indexed = c.make_memory.ensures.indexed;
      counted = omega (arith, c.reserve.ensures.len, self.counted, ap length row);
      visible_are = self.visible_are ∙ sym (ap visible_in same);
      up_to = ap (are_up_to self.highest) row ∙ self.up_to;
      enough = subst (HasRoom new) (c.most_for-stretches.ensures ∙ (λ i. stretches_for c.max-room.result ((c.len-2.ensures ∙ long) i) ((self.indexed.counted ∙ sym (ap length same)) i))) c.in_ok-make_memory.ensures.ok;
      enough_characters = omega (arith, c.in_ok-reserve.ensures.ok, c.reserve.ensures.len);
      few = omega (arith, c.if-len-room.false, c.len.ensures, c.reserve.ensures.len, self.few);
    }
