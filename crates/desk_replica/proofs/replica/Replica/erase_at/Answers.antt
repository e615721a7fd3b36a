-- The goals of `erase_at` that are answered by hand.
use Rattle.std.proofs.Common.{◌≡◌, ◌≤◌, sym, subst, ◌∙◌, refl}
use Rattle.bg_types.specs.OperationSet.{OperationSet, with_operation, size}
use Rattle.bg_types.specs.declared.op.OpView.{OpView}
use Rattle.bg_types.specs.declared.op.OpView.TheVariants.{Erase}
use Rattle.desk_replica.specs.Desk.{Desk}
use Rattle.desk_replica.specs.Reply.{IsRefused}
use Rattle.desk_replica.specs.Typing.{IsErasedAt}
use Rattle.desk_replica.proofs.Typing.{erased_at, visible_attached, erase_full, erase_within}
use Rattle.desk_replica.proofs.replica.Replica.erase_at.Goals as goal

pub returns-in-Ok-clause-op : goal.returns-in-Ok-clause-op
returns-in-Ok-clause-op g c =
    let s = c.args.self.now.set in
    let set : c.take.new.self.set ≡ with_operation s (Erase c.id_at.result) = c.in-Ok.ensures.ok ∙ (λ i. with_operation ((c.id_at.ensures.unchanged i).set) (c.erase-op.ensures.value i)) in
    let at = erased_at s c.args.place c.id_at.result c.id_at.ensures.well_formed c.id_at.ensures.value in
    subst (λ (o : OpView). IsErasedAt s c.take.new.self.set c.args.place o) (sym c.erase-op.ensures.value)
    (subst (λ (t : OperationSet). IsErasedAt s t c.args.place (Erase c.id_at.result)) (sym set) at)

pub returns-in-Ok-clause-accepted : goal.returns-in-Ok-clause-accepted
returns-in-Ok-clause-accepted g c =
    let s = c.args.self.now.set in
    let set : c.take.new.self.set ≡ with_operation s (Erase c.id_at.result) = c.in-Ok.ensures.ok ∙ (λ i. with_operation ((c.id_at.ensures.unchanged i).set) (c.erase-op.ensures.value i)) in
    erase_within s c.args.place c.id_at.result c.id_at.ensures.value (subst (λ (t : OperationSet). size t ≤ 1_000_000) set c.take.ensures.limited)

pub returns-in-Err-clause-fault : goal.returns-in-Err-clause-fault
returns-in-Err-clause-fault g c =
    let s = c.args.self.now.set in
    let r : IsRefused s (Erase c.id_at.result) c.in-Err.field-0 =
    subst (λ (o : OpView). IsRefused s o c.in-Err.field-0) c.erase-op.ensures.value (subst (λ (d : Desk). IsRefused d.set c.erase-op.result c.in-Err.field-0) c.id_at.ensures.unchanged c.in-Err.ensures.answer) in
    (refl, erase_full s c.id_at.result c.in-Err.field-0 (visible_attached s c.args.place c.id_at.result c.id_at.ensures.value) r)
