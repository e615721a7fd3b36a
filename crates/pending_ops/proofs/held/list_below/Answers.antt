-- The goals of `list_below` that are answered by hand.
use Rattle.std.proofs.Common.{◌≡◌, ◌≤◌, ◌+◌, ◌++◌, Some, refl, sym, ap, subst, ◌∙◌, length, length-append, vec_len, arith}
use Rattle.std.specs.Prelude.{slice_get}
use Rattle.std.proofs.lemmas.Option.{slice_get_read}
use Rattle.pending_ops.specs.Below.{CountsBelow}
use Rattle.pending_ops.specs.Chains.{first_in, slot_in}
use Rattle.pending_ops.proofs.Walks.{Links-unique}
use Rattle.pending_ops.proofs.Counting.{IsListing, listing_first, listing_more, listing_fits, listing_counts}
use Rattle.pending_ops.proofs.held.list_below.Goals as goal

pub append_chain-requires : goal.append_chain-requires
append_chain-requires c =
    let slots = c.args.slots.now.entries in
    let id = c.args.id in
    let chain = c.requires.chains id in
    let fits = listing_fits slots id chain.members 0 (listing_first (slot_in slots) c.requires.formed id (first_in c.args.firsts.now.entries id) chain) in
    let none = ap length c.requires.empty in
    let room = c.requires.room in
    (chain.members, (chain.links, omega arith))

pub loop-done-init : goal.loop-done-init
loop-done-init c =
    let slots = c.args.slots.now.entries in
    let id = c.args.id in
    let start = first_in c.args.firsts.now.entries id in
    let chain = c.requires.chains id in
    let items = c.append_chain.ensures.items in
    let same = Links-unique (slot_in slots) start items.0 chain.members items.1.0 chain.links in
    record {
      listing = subst (λ xs. IsListing (slot_in slots) id xs 0) (sym (items.1.1 ∙ (λ i. c.requires.empty i ++ same i))) (listing_first (slot_in slots) c.requires.formed id start chain);
      capacity = c.append_chain.ensures.capacity;
    }

pub append_chain-requires-in-loop-done : goal.append_chain-requires-in-loop-done
append_chain-requires-in-loop-done c =
    let slots = c.args.slots.now.entries in
    let id = c.args.id in
    let xs = c.loop-done.queue.items in
    let x = c.index.result.now in
    let chain = c.requires.chains x in
    let len = c.len.ensures in
    let test = c.loop-done-test.true in
    let at : slice_get xs c.loop-done.done ≡ Some x = slice_get_read xs (length xs) c.loop-done.done x refl (omega arith) c.index.ensures in
    let more = listing_more (slot_in slots) c.requires.formed id xs c.loop-done.done c.loop-done.invariant.listing x at (first_in c.args.firsts.now.entries x) chain in
    let fits = listing_fits slots id (xs ++ chain.members) (c.loop-done.done + 1) more in
    let both = length-append xs chain.members in
    let room = c.requires.room in
    let capacity = c.loop-done.invariant.capacity in
    (chain.members, (chain.links, omega arith))

pub loop-done-smaller : goal.loop-done-smaller
loop-done-smaller c =
    let fits = listing_fits c.args.slots.now.entries c.args.id c.loop-done.queue.items c.loop-done.done c.loop-done.invariant.listing in
    let len = c.len.ensures in
    let test = c.loop-done-test.true in
    omega arith

pub loop-done-preserved : goal.loop-done-preserved
loop-done-preserved c =
    let slots = c.args.slots.now.entries in
    let id = c.args.id in
    let xs = c.loop-done.queue.items in
    let x = c.index.result.now in
    let start = first_in c.args.firsts.now.entries x in
    let chain = c.requires.chains x in
    let len = c.len.ensures in
    let test = c.loop-done-test.true in
    let at : slice_get xs c.loop-done.done ≡ Some x = slice_get_read xs (length xs) c.loop-done.done x refl (omega arith) c.index.ensures in
    let items = c.append_chain-in-loop-done.ensures.items in
    let same = Links-unique (slot_in slots) start items.0 chain.members items.1.0 chain.links in
    record {
      listing = subst (λ ys. IsListing (slot_in slots) id ys (c.loop-done.done + 1)) (sym (items.1.1 ∙ ap (λ ys. xs ++ ys) same))
          (listing_more (slot_in slots) c.requires.formed id xs c.loop-done.done c.loop-done.invariant.listing x at start chain);
      capacity = c.append_chain-in-loop-done.ensures.capacity ∙ c.loop-done.invariant.capacity;
    }

pub returns-clause-count : goal.returns-clause-count
returns-clause-count c = λ s ins.
    let xs = c.loop-done.queue.items in
    let len = c.len.ensures in
    let test = c.loop-done-test.false in
    let all : length xs ≤ c.loop-done.done = omega arith in
    let same : length xs ≡ vec_len c.loop-done.queue = omega arith in
    subst (λ n. CountsBelow s c.args.id n) same (listing_counts c.args.slots.now.entries c.args.id xs c.loop-done.done c.loop-done.invariant.listing all s ins)
