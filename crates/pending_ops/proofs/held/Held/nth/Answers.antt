-- The goals of `nth` that are answered by hand.
use Rattle.std.proofs.Common.{◌≡◌, ◌≤◌, ◌-◌, Some, sym, ap, subst, ◌∙◌, length, arith}
use Rattle.std.specs.Prelude.{IfSome, slice_get, map as each}
use Rattle.std.specs.Option.{option_map}
use Rattle.std.proofs.lemmas.List.{length-map}
use Rattle.std.proofs.lemmas.Option.{slice_get-map}
use Rattle.bg_types.specs.OperationSet.{size}
use Rattle.bg_types.specs.declared.op.OpView.TheVariants.{Insert, Erase}
use Rattle.pending_ops.specs.Waiting.{Waiting, ListsOnce}
use Rattle.pending_ops.specs.Chains.{insertion_of}
use Rattle.pending_ops.proofs.Tables.{IsDistinct-id_eq, keys_of, lookup-id_eq}
use Rattle.pending_ops.proofs.Listing.{len-from_list, len-insertions_of, lists_once, slice_get-left, slice_get-right, slice_get_none}
use Rattle.pending_ops.proofs.held.Held.nth.Goals as goal

pub prove-unreachable-requires : goal.prove-unreachable-requires
prove-unreachable-requires c =
    let slots = c.self.inside.slots.entries in
    let erased = c.self.inside.erased.keys in
    let insertions = len-insertions_of slots (IsDistinct-id_eq (keys_of slots) c.len-insertions.ensures.unique) in
    let erasures = len-from_list erased (IsDistinct-id_eq erased c.len-erasures.ensures.unique) in
    let all = ap (λ (w : Waiting). size w.held) c.self.view_is in
    let within = c.requires in
    let one = c.len-insertions.ensures.len in
    let two = c.len-erasures.ensures.len in
    omega arith

pub unwrap-requires : goal.unwrap-requires
unwrap-requires c =
    let slots = c.self.inside.slots.entries in
    let id = c.in-Some.id.now in
    c.insert.ensures.valid.1 (c.self.invariant.0.formed id c.in-Some.slot.now (sym (lookup-id_eq slots id) ∙ c.in-Some.ensures.value))

pub returns-in-Some-clause-listed : goal.returns-in-Some-clause-listed
returns-in-Some-clause-listed c =
    let slots = c.self.inside.slots.entries in
    let told = Insert c.in-Some.id.now c.in-Some.slot.now.parent c.in-Some.slot.now.ch in
    let is = subst (λ r. IfSome r (λ op. op ≡ told)) c.unwrap.ensures c.insert.ensures.value in
    ap (λ (w : Waiting). slice_get w.listed c.args.j) (sym c.self.view_is)
    ∙ slice_get-left (each insertion_of slots) (each Erase c.self.inside.erased.keys) c.args.j told
    (slice_get-map insertion_of slots c.args.j ∙ ap (option_map insertion_of) (sym c.in-Some.ensures.entry))
    ∙ ap Some (sym is)

pub returns-in-Some-clause-each_once : goal.returns-in-Some-clause-each_once
returns-in-Some-clause-each_once c =
    let slots = c.self.inside.slots.entries in
    let erased = c.self.inside.erased.keys in
    subst (λ (w : Waiting). ListsOnce w.held w.listed) c.self.view_is
    (lists_once slots c.self.inside.released.keys erased c.self.inside.room (IsDistinct-id_eq (keys_of slots) c.len-insertions.ensures.unique) (IsDistinct-id_eq erased c.len-erasures.ensures.unique))

pub returns-in-None-clause-listed : goal.returns-in-None-clause-listed
returns-in-None-clause-listed c =
    let slots = c.self.inside.slots.entries in
    let erased = c.self.inside.erased.keys in
    ap (λ (w : Waiting). slice_get w.listed c.args.j) (sym c.self.view_is)
    ∙ slice_get-right (each insertion_of slots) (each Erase erased) c.args.j (c.args.j - c.len-insertions.result) (Erase c.index.result.now)
    (let n = length-map slots insertion_of in let m = c.len-insertions.ensures.len in let past : length slots ≤ c.args.j = slice_get_none slots c.args.j (sym c.in-None.ensures.entry) in omega arith)
    (slice_get-map Erase erased _ ∙ ap (option_map Erase) c.index.ensures)
    ∙ ap Some (sym c.erase.ensures.value)

pub returns-in-None-clause-each_once : goal.returns-in-None-clause-each_once
returns-in-None-clause-each_once c =
    let slots = c.self.inside.slots.entries in
    let erased = c.self.inside.erased.keys in
    subst (λ (w : Waiting). ListsOnce w.held w.listed) c.self.view_is
    (lists_once slots c.self.inside.released.keys erased c.self.inside.room (IsDistinct-id_eq (keys_of slots) c.len-insertions.ensures.unique) (IsDistinct-id_eq erased c.len-erasures.ensures.unique))
