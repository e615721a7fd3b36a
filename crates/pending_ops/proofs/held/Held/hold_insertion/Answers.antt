-- The goals of `hold_insertion` that are answered by hand.
use Rattle.std.proofs.Common.{Some, ap, ◌∙◌, length, arith}
use Rattle.std.specs.FinMap as map
use Rattle.std.specs.FinSet as set
use Rattle.bg_types.specs.OperationSet.{with_operation}
use Rattle.bg_types.specs.declared.op.OpView.TheVariants.{Insert}
use Rattle.pending_ops.specs.declared.chains.Slot.{Slot}
use Rattle.pending_ops.specs.Waiting.{Waiting}
use Rattle.pending_ops.proofs.Tables.{from_ok, ok_is, lookup-updated, one_more}
use Rattle.pending_ops.proofs.Views.{insertions_of-inserted, slot_in-absent}
use Rattle.pending_ops.proofs.Holding.{AreLinked-held}
use Rattle.pending_ops.proofs.held.Held.hold_insertion.Goals as goal

pub invariant_of-self : goal.invariant_of-self
invariant_of-self c =
    let slots = c.self.inside.slots.entries in
    let firsts = c.self.inside.firsts.entries in
    let newer = c.insert.new.self.entries in
    let id = c.args.id in
    let s : Slot = record { parent = c.args.parent.now; ch = c.args.ch; next = c.link-next.result } in
    let ok = ok_is c.insert.result c.unwrap.result c.unwrap.ensures in
    let up = from_ok c.insert.result _ ok c.insert.ensures.updates in
    let put = lookup-updated slots newer id (Some s) up.0 in
    let absent = slot_in-absent slots id (ap (λ (w : Waiting). map.get w.held.ins id) c.self.view_is ∙ c.requires.new) in
    let linked = AreLinked-held slots newer firsts c.link-next.new.firsts.entries c.self.inside.released.keys id s c.self.invariant.0 absent c.requires.may put c.link-next.ensures.first c.link-next.ensures.next in
    let one = one_more c.insert.result (length newer) (length slots) ok c.insert.ensures.len in
    let slot = c.insert.ensures.spare in
    let first = c.link-next.ensures.spare in
    let heads = c.link-next.ensures.len in
    let room = c.self.invariant.1.1 in
    let some = c.requires.room in
    let same = ap (λ (w : Waiting). w.room) c.self.view_is in
    (linked, (c.self.invariant.1.0, (omega (arith, room.0, slot), omega (arith, room.1, first), omega (arith, room.2), omega (arith, room.3, one, some, same), omega (arith, room.4, heads, some, same))))

pub returns-clause-held : goal.returns-clause-held
returns-clause-held c =
    let slots = c.self.inside.slots.entries in
    let newer = c.insert.new.self.entries in
    let id = c.args.id in
    let s : Slot = record { parent = c.args.parent.now; ch = c.args.ch; next = c.link-next.result } in
    let ok = ok_is c.insert.result c.unwrap.result c.unwrap.ensures in
    let up = from_ok c.insert.result _ ok c.insert.ensures.updates in
    let put = lookup-updated slots newer id (Some s) up.0 in
    (λ i. record { ins = insertions_of-inserted slots newer id s put i; del = set.from_list c.self.inside.erased.keys })
    ∙ ap (λ (w : Waiting). with_operation w.held (Insert id c.args.parent.now c.args.ch)) c.self.view_is
