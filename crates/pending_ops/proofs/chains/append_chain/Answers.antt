-- The goals of `append_chain` that are answered by hand.
use Rattle.std.proofs.Common.{[], refl, sym, subst, ◌∙◌, vec_capacity, arith}
use Rattle.std.proofs.lemmas.List.{append-nil}
use Rattle.pending_ops.specs.Chains.{Links, first_in, slot_in}
use Rattle.pending_ops.proofs.Walks.{walking_on, walking_nowhere, walked}
use Rattle.pending_ops.proofs.Tables.{lookup-id_eq}
use Rattle.pending_ops.proofs.chains.append_chain.Goals as goal

pub loop-cursor-init : goal.loop-cursor-init
loop-cursor-init c =
    let slot = slot_in c.args.slots.now.entries in
    let start = c.first_of-cursor.ensures in
    record {
      walking = record {
        done = [];
        rest = c.requires.0;
        whole = c.requires.1.0;
        left = subst (λ o. Links slot o c.requires.0) (sym start) c.requires.1.0;
        items = sym (append-nil c.args.queue.now.items);
        room = let room = c.requires.1.1 in omega arith;
      };
      capacity = refl;
    }

pub loop-cursor-preserved-in-Some-get : goal.loop-cursor-preserved-in-Some-get
loop-cursor-preserved-in-Some-get c = record {
  walking = walking_on (slot_in c.args.slots.now.entries) (first_in c.args.firsts.now.entries c.args.parent) c.loop-cursor.cursor c.in-Some.id c.args.queue.now.items
      c.loop-cursor.queue.items c.push_reserved.new.self.items (vec_capacity c.args.queue.now) c.in-Some-get.slot.now c.loop-cursor.invariant.walking c.in-Some.is
      c.push_reserved.ensures.items (sym (lookup-id_eq c.args.slots.now.entries c.in-Some.id) ∙ sym c.in-Some-get.ensures.value);
  capacity = c.push_reserved.ensures.capacity ∙ c.loop-cursor.invariant.capacity;
}

pub loop-cursor-preserved : goal.loop-cursor-preserved
loop-cursor-preserved c =
    absurd (walking_nowhere (slot_in c.args.slots.now.entries) (first_in c.args.firsts.now.entries c.args.parent) c.loop-cursor.cursor c.in-Some.id c.args.queue.now.items
    c.loop-cursor.queue.items (vec_capacity c.args.queue.now) c.loop-cursor.invariant.walking c.in-Some.is
    (sym (lookup-id_eq c.args.slots.now.entries c.in-Some.id) ∙ sym c.in-None.ensures.value))

pub returns-clause-items : goal.returns-clause-items
returns-clause-items c =
    walked (slot_in c.args.slots.now.entries) (first_in c.args.firsts.now.entries c.args.parent) c.loop-cursor.cursor c.args.queue.now.items c.loop-cursor.queue.items
    (vec_capacity c.args.queue.now) c.loop-cursor.invariant.walking c.in_default.is
