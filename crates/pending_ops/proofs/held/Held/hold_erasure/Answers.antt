-- The goals of `hold_erasure` that are answered by hand.
use Rattle.std.proofs.Common.{ap, ◌∙◌}
use Rattle.bg_types.specs.OperationSet.{with_operation}
use Rattle.bg_types.specs.declared.op.OpView.TheVariants.{Erase}
use Rattle.pending_ops.specs.Waiting.{Waiting}
use Rattle.pending_ops.specs.Chains.{insertions_of}
use Rattle.pending_ops.proofs.Tables.{from_ok, ok_is}
use Rattle.pending_ops.proofs.Views.{from_list-inserted}
use Rattle.pending_ops.proofs.held.Held.hold_erasure.Goals as goal

pub returns-clause-held : goal.returns-clause-held
returns-clause-held c =
    let up = from_ok c.insert.result _ (ok_is c.insert.result c.unwrap.result c.unwrap.ensures) c.insert.ensures.updates in
    let more = from_list-inserted c.self.inside.erased.keys c.insert.new.self.keys c.args.target up.0 in
    (λ i. record { ins = insertions_of c.self.inside.slots.entries; del = more i })
    ∙ ap (λ (w : Waiting). with_operation w.held (Erase c.args.target)) c.self.view_is
