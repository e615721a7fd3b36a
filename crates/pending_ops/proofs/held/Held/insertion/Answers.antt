-- The goals of `insertion` that are answered by hand.
use Rattle.std.proofs.Common.{◌≡◌, Option, None, Some, sym, ap, ◌∙◌, true≢false}
use Rattle.std.specs.Prelude.{IfSome, IsSome}
use Rattle.std.specs.Option.{option_map}
use Rattle.std.specs.FinMap as map
use Rattle.std.proofs.lemmas.List.{nil_from_length}
use Rattle.bg_types.specs.OperationSet.{Node}
use Rattle.bg_types.specs.declared.op.OpView.{OpView}
use Rattle.bg_types.specs.declared.op.OpView.TheVariants.{Insert}
use Rattle.pending_ops.specs.declared.chains.Slot.{Slot}
use Rattle.pending_ops.specs.Waiting.{Waiting}
use Rattle.pending_ops.specs.Chains.{slot_in}
use Rattle.pending_ops.proofs.Tables.{lookup-id_eq}
use Rattle.pending_ops.proofs.Views.{insertion-get}
use Rattle.pending_ops.proofs.held.Held.insertion.Goals as goal

is_some_of : (r : Option OpView) (op : OpView) → IsSome r → IfSome r (λ x. x ≡ op) → r ≡ Some op
is_some_of None op some is = absurd (true≢false (sym some))
is_some_of (Some x) op some is = ap Some is

pub returns-then-is_empty : goal.returns-then-is_empty
returns-then-is_empty c =
    let slots = c.self.inside.slots.entries in
    let id = c.args.id in
    ap (λ es. option_map (λ (s : Slot). Insert id s.parent s.ch) (slot_in es id)) (sym (nil_from_length slots (c.is_empty.ensures.0 c.if-is_empty.true))) ∙ insertion-get slots id
    ∙ ap (λ (w : Waiting). option_map (λ (n : Node). Insert id n.parent n.ch) (map.get w.held.ins id)) c.self.view_is

pub returns-in-Some : goal.returns-in-Some
returns-in-Some c =
    let slots = c.self.inside.slots.entries in
    let id = c.args.id in
    let slot = c.in-Some.slot.now in
    let there : Some slot ≡ slot_in slots id = c.in-Some.ensures.value ∙ lookup-id_eq slots id in
    is_some_of c.insert.result (Insert id slot.parent slot.ch) (c.insert.ensures.valid.1 (c.self.invariant.0.formed id slot (sym there))) c.insert.ensures.value
    ∙ ap (option_map (λ (s : Slot). Insert id s.parent s.ch)) there ∙ insertion-get slots id
    ∙ ap (λ (w : Waiting). option_map (λ (n : Node). Insert id n.parent n.ch) (map.get w.held.ins id)) c.self.view_is

pub returns-in-None : goal.returns-in-None
returns-in-None c =
    let slots = c.self.inside.slots.entries in
    let id = c.args.id in
    ap (option_map (λ (s : Slot). Insert id s.parent s.ch)) (c.in-None.ensures.value ∙ lookup-id_eq slots id) ∙ insertion-get slots id
    ∙ ap (λ (w : Waiting). option_map (λ (n : Node). Insert id n.parent n.ch) (map.get w.held.ins id)) c.self.view_is
