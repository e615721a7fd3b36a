-- What is told leads to the text, and the buffer follows.
use Rattle.std.proofs.Common.{refl, sym, subst}
use Rattle.std.proofs.lemmas.Result.{on_ok_weaker}
use Rattle.bg_types.specs.Edit.{IsEdit}
use Rattle.bg_types.proofs.Interface.{edit_once}
use Rattle.rga_tree.specs.TextOf.{text}
use Rattle.calling.proofs.buffer.take_into.Goals as goal

pub loop-op-init : goal.loop-op-init
loop-op-init c = subst (λ l. IsEdit (text c.args.desk.now.set) l (text c.args.desk.now.set)) (sym c.new-changes.ensures.items) refl

pub loop-op-preserved : goal.loop-op-preserved
loop-op-preserved c =
    c.told_changes.ensures.in_turn (text c.args.desk.now.set) c.loop-op.desk.set c.take_telling.new.self.set c.loop-op.changes.items c.take_telling.new.changes.items c.loop-op.invariant c.take_telling.ensures.told

pub follow_all-requires : goal.follow_all-requires
follow_all-requires c =
    let edit = subst (λ t. IsEdit t c.loop-op.changes.items (text c.loop-op.desk.set)) (sym c.requires) c.loop-op.invariant in
    (text c.loop-op.desk.set, subst (λ l. IsEdit c.args.buffer.now.items l (text c.loop-op.desk.set)) (sym c.deref.ensures.value) edit)

pub returns : goal.returns
returns c =
    let edit = subst (λ t. IsEdit t c.loop-op.changes.items (text c.loop-op.desk.set)) (sym c.requires) c.loop-op.invariant in
    on_ok_weaker c.follow_all.result (λ made. edit_once c.args.buffer.now.items c.follow_all.new.buffer.items (text c.loop-op.desk.set) c.loop-op.changes.items (subst (λ l. IsEdit c.args.buffer.now.items l c.follow_all.new.buffer.items) c.deref.ensures.value made) edit) c.follow_all.ensures
