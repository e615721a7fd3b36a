-- The goals of `next_ready` that are answered by hand.
use Rattle.std.proofs.Common.{◌≡◌, ◌≤◌, ◌-◌, [], ◌∷◌, refl, List, None, Some, Option, sym, ap, subst, ◌∙◌, arith, is_some, length, true, false, true≢false}
use Rattle.std.specs.Prelude.{IfNone, IfSome, IsSome, slice_get}
use Rattle.std.specs.Option.{option_map_or}
use Rattle.std.specs.FinSet as set
use Rattle.std.proofs.lemmas.Map.Made.{lookup_key_passes}
use Rattle.bg_types.specs.Identifier.{Identifier}
use Rattle.bg_types.specs.declared.op.OpView.{OpView}
use Rattle.bg_types.specs.declared.op.OpView.TheVariants.{Insert}
use Rattle.bg_types.proofs.Interface.{same_id-is}
use Rattle.pending_ops.specs.declared.chains.Slot.{Slot}
use Rattle.pending_ops.specs.Waiting.{HandsOut, NoneReady, Waiting, is_after}
use Rattle.pending_ops.specs.Chains.{AreLinked, first_in, is_in, node_in, slot_in, waiting_of}
use Rattle.pending_ops.proofs.Tables.{before_last, id_eq, id_eq-is, is_in-slice_get, lookup-id_eq, lookup-updated, not_both}
use Rattle.pending_ops.proofs.Listing.{slice_get_none}
use Rattle.pending_ops.proofs.Views.{first_names}
use Rattle.pending_ops.proofs.HandingOut.{AreLinked-handed_out, hands_out, none_ready}
use Rattle.pending_ops.proofs.held.Held.next_ready.Goals as goal

-- a list without a last one is empty
no_last : (xs : List Identifier) → slice_get xs (length xs - 1) ≡ None → xs ≡ []
no_last [] h = refl
no_last (x ∷ xs) h = absurd (let within : length (x ∷ xs) ≤ length (x ∷ xs) - 1 = slice_get_none (x ∷ xs) (length (x ∷ xs) - 1) h in omega (arith, within))

-- the first of a chain has a slot
some_slot : (slots : List (Identifier × Slot)) (firsts : List (Identifier × Identifier)) (released : List Identifier) (parent id : Identifier)
    → AreLinked slots firsts released → first_in firsts parent ≡ Some id → slot_in slots id ≡ None → ⊥
some_slot slots firsts released parent id linked first gone =
    let named = first_names (slot_in slots) parent id (first_in firsts parent) (linked.chains parent) first in
    true≢false (sym named ∙ ap (λ o. option_map_or (λ (s : Slot). is_after s.parent parent) o false) gone)

pub unreachable-requires : goal.unreachable-requires
unreachable-requires c =
    let parent = c.in_ok-parent.field-0.now in
    let released = c.self.inside.released.keys in
    let there : is_in released parent ≡ true = is_in-slice_get released _ parent (sym c.in_ok-parent.ensures.key) in
    let gone : first_in c.self.inside.firsts.entries parent ≡ None = sym (lookup-id_eq c.self.inside.firsts.entries parent) ∙ sym c.in_default.ensures.value in
    true≢false (sym (c.self.invariant.0.needed parent there) ∙ ap is_some gone)

pub unreachable-requires-in_default-swap_remove : goal.unreachable-requires-in_default-swap_remove
unreachable-requires-in_default-swap_remove c =
    let parent = c.in_ok-parent.field-0.now in
    let id = c.in-Some.first.now in
    let slots = c.self.inside.slots.entries in
    let firsts = c.self.inside.firsts.entries in
    let first : first_in firsts parent ≡ Some id = sym (lookup-id_eq firsts parent) ∙ sym c.in-Some.ensures.value in
    let gone : slot_in slots id ≡ None = sym (lookup-id_eq slots id) ∙ sym c.in_default-swap_remove.ensures.value in
    some_slot slots firsts c.self.inside.released.keys parent id c.self.invariant.0 first gone

pub unlink-requires-clause-first : goal.unlink-requires-clause-first
unlink-requires-clause-first c = ap is_some (sym (lookup-id_eq c.self.inside.firsts.entries c.in_ok-parent.field-0.now) ∙ sym c.in-Some.ensures.value)

pub unlink-requires-clause-at : goal.unlink-requires-clause-at
unlink-requires-clause-at c =
    let parent = c.in_ok-parent.field-0.now in
    let firsts = c.self.inside.firsts.entries in
    let key = c.in-Some.field-0-1.now in
    let own : key ≡ parent = sym (same_id-is parent key (sym (id_eq-is parent key) ∙ lookup_key_passes (id_eq parent) firsts key (sym c.in-Some.ensures.key))) in
    (c.in-Some.first.now, subst (λ k. slice_get firsts c.in-Some.at ≡ Some (k, c.in-Some.first.now)) own c.in-Some.ensures.entry)

pub unlink-requires-clause-last : goal.unlink-requires-clause-last
unlink-requires-clause-last c = before_last c.self.inside.released.keys c.in_ok-parent.field-0.now (sym c.in_ok-parent.ensures.key)

pub invariant_of-self : goal.invariant_of-self
invariant_of-self c =
    let parent = c.in_ok-parent.field-0.now in
    let id = c.in-Some.first.now in
    let slot = c.in-Some-swap_remove.slot in
    let slots = c.self.inside.slots.entries in
    let firsts = c.self.inside.firsts.entries in
    let released = c.self.inside.released.keys in
    let last = before_last released parent (sym c.in_ok-parent.ensures.key) in
    let first = sym (lookup-id_eq firsts parent) ∙ sym c.in-Some.ensures.value in
    let own = sym (lookup-id_eq slots id) ∙ sym c.in-Some-swap_remove.ensures.value in
    let cut = lookup-updated slots c.swap_remove.new.self.entries id None c.swap_remove.ensures.updates.0 in
    let linked = AreLinked-handed_out slots c.swap_remove.new.self.entries firsts c.unlink.new.firsts.entries released c.unlink.new.released.keys c.self.inside.erased.keys
    last.0 c.self.inside.room parent id slot c.self.invariant.0 last.1 first own cut c.unlink.ensures.first c.unlink.ensures.kept c.unlink.ensures.emptied in
    let less = c.in-Some-swap_remove.ensures.len in
    let spare = c.swap_remove.ensures.room.0 in
    let room = c.self.invariant.1.1 in
    (linked, (c.self.invariant.1.0, (omega arith, omega (arith, room.1, c.unlink.ensures.spare), room.2, omega arith, c.unlink.ensures.room c.self.inside.room room.4)))

none_left : {X : Type 0} (o : Option X) (P : Type 0) → P → IfNone o P
none_left None P p = p
none_left (Some x) P p = tt

pub returns-in_err-parent-clause-released : goal.returns-in_err-parent-clause-released
returns-in_err-parent-clause-released c =
    none_left c.from_residual.result _
    (ap (λ (w : Waiting). w.released) (sym c.self.view_is) ∙ ap set.from_list (no_last c.self.inside.released.keys (sym c.in_err-parent.ensures.key)))

pub returns-in_err-parent-clause-none : goal.returns-in_err-parent-clause-none
returns-in_err-parent-clause-none c = (
  (λ _. subst NoneReady c.self.view_is (none_ready c.self.inside.slots.entries c.self.inside.released.keys c.self.inside.erased.keys c.self.inside.room (no_last c.self.inside.released.keys (sym c.in_err-parent.ensures.key)))),
  (λ _. ap is_some c.from_residual.ensures),
)

some_op : (r : Option OpView) (x : OpView) (P : OpView → Type 0) → IfSome r (λ op. op ≡ x) → P x → IfSome r P
some_op None x P e p = tt
some_op (Some op) x P e p = subst P (sym e) p

pub returns-clause-some : goal.returns-clause-some
returns-clause-some c =
    let parent = c.in_ok-parent.field-0.now in
    let id = c.in-Some.first.now in
    let slot = c.in-Some-swap_remove.slot in
    let slots = c.self.inside.slots.entries in
    let firsts = c.self.inside.firsts.entries in
    let released = c.self.inside.released.keys in
    let erased = c.self.inside.erased.keys in
    let last = before_last released parent (sym c.in_ok-parent.ensures.key) in
    let first = sym (lookup-id_eq firsts parent) ∙ sym c.in-Some.ensures.value in
    let own = sym (lookup-id_eq slots id) ∙ sym c.in-Some-swap_remove.ensures.value in
    let cut = lookup-updated slots c.swap_remove.new.self.entries id None c.swap_remove.ensures.updates.0 in
    let out = hands_out slots c.swap_remove.new.self.entries firsts c.unlink.new.firsts.entries released c.unlink.new.released.keys erased
    last.0 c.self.inside.room parent id slot c.self.invariant.0 last.1 first own cut c.unlink.ensures.first c.unlink.ensures.kept c.unlink.ensures.emptied in
    some_op c.insert.result (Insert id slot.parent slot.ch) _ c.insert.ensures.value
    (subst (λ w. HandsOut w id (node_in slot) (waiting_of c.swap_remove.new.self.entries c.unlink.new.released.keys erased c.self.inside.room)) c.self.view_is out)

pub returns-clause-none : goal.returns-clause-none
returns-clause-none c =
    let parent = c.in_ok-parent.field-0.now in
    let id = c.in-Some.first.now in
    let slot = c.in-Some-swap_remove.slot in
    let slots = c.self.inside.slots.entries in
    let firsts = c.self.inside.firsts.entries in
    let released = c.self.inside.released.keys in
    let last = before_last released parent (sym c.in_ok-parent.ensures.key) in
    let first = sym (lookup-id_eq firsts parent) ∙ sym c.in-Some.ensures.value in
    let own = sym (lookup-id_eq slots id) ∙ sym c.in-Some-swap_remove.ensures.value in
    let cut = lookup-updated slots c.swap_remove.new.self.entries id None c.swap_remove.ensures.updates.0 in
    let out = hands_out slots c.swap_remove.new.self.entries firsts c.unlink.new.firsts.entries released c.unlink.new.released.keys c.self.inside.erased.keys
    last.0 c.self.inside.room parent id slot c.self.invariant.0 last.1 first own cut c.unlink.ensures.first c.unlink.ensures.kept c.unlink.ensures.emptied in
    let some : IsSome c.insert.result = c.insert.ensures.valid.1 (c.self.invariant.0.formed id slot own) in
    ((λ none. absurd (not_both c.insert.result some none)), (λ none. absurd (true≢false (sym out.was_ready ∙ subst NoneReady (sym c.self.view_is) none id))))

not_none : (r : Option OpView) (P : Type 0) → IsSome r → IfNone r P
not_none None P some = absurd (true≢false (sym some))
not_none (Some op) P some = tt

pub returns-clause-unchanged : goal.returns-clause-unchanged
returns-clause-unchanged c =
    let own = sym (lookup-id_eq c.self.inside.slots.entries c.in-Some.first.now) ∙ sym c.in-Some-swap_remove.ensures.value in
    not_none c.insert.result _ (c.insert.ensures.valid.1 (c.self.invariant.0.formed c.in-Some.first.now c.in-Some-swap_remove.slot own))

pub returns-clause-released : goal.returns-clause-released
returns-clause-released c =
    let own = sym (lookup-id_eq c.self.inside.slots.entries c.in-Some.first.now) ∙ sym c.in-Some-swap_remove.ensures.value in
    not_none c.insert.result _ (c.insert.ensures.valid.1 (c.self.invariant.0.formed c.in-Some.first.now c.in-Some-swap_remove.slot own))
