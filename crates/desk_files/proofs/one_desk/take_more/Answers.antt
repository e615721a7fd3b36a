-- The goals of `take_more` that are answered by hand.
use Rattle.std.proofs.Common.{◌≡◌, ◌≢◌, Some, ◌++◌, sym, subst, ◌∙◌}
use Rattle.desk_replica.specs.declared.answer.TakeFault.TheVariants.{Memory}
use Rattle.desk_files.specs.Taking.{HasTaken}
use Rattle.desk_files.proofs.Feeding.{on_ok}
use Rattle.desk_files.proofs.AnyOrder.{taken-reordered, refused-more}
use Rattle.desk_files.proofs.InOrder.{set_of_all, stopped_at}
use Rattle.desk_files.proofs.Taking.{taken-refused, taken-more}
use Rattle.desk_files.proofs.one_desk.take_more.Goals as goal

pub returns-then-is_some-clause-taken : goal.returns-then-is_some-clause-taken
returns-then-is_some-clause-taken c = λ before h. taken-refused before c.args.ops.now c.args.desk.now.set c.args.refused.now (sym c.is_some.ensures ∙ c.if-is_some.true) h

pub returns-in-Ok-clause-taken : goal.returns-in-Ok-clause-taken
returns-in-Ok-clause-taken c =
    let s = c.args.desk.now.set in
    let now = c.put_in_order.new.ops in
    let t = c.take_all.new.self.set in
    let limited = c.take_all.ensures.limited in
    λ before h. taken-more before c.args.ops.now s t c.args.refused.now (sym c.is_some.ensures ∙ c.if-is_some.false)
    (λ old. taken-reordered s before c.args.ops.now now t c.put_in_order.ensures (set_of_all c.one_more_operation.ensures.holds before now c.args.desk.now c.take_all.new.self c.in-Ok.ensures.ok old)) (λ _. limited) h

pub returns-in-Err-clause-taken : goal.returns-in-Err-clause-taken
returns-in-Err-clause-taken c =
    let growth = c.one_more_operation.ensures in
    let s = c.args.desk.now.set in
    let now = c.put_in_order.new.ops in
    let t = c.take_all.new.self.set in
    let stop = c.in-Err.stop in
    let kept = c.keep_refusal.new.refused in
    λ before h. on_ok c.keep_refusal.result ((kept ≡ Some stop.fault) × (stop.fault ≢ Memory)) (HasTaken (before ++ c.args.ops.now) t kept)
    (λ k. subst (HasTaken (before ++ c.args.ops.now) t) (sym k.0)
    (refused-more (record { holds = growth.holds; grows = growth.grows; known = growth.known })
    (record { one_set = c.one_set.ensures; one_refusal = c.one_refusal.ensures.first; none_refused = c.none_refused.ensures })
    before c.args.ops.now now s c.args.refused.now stop.fault (sym c.is_some.ensures ∙ c.if-is_some.false) c.put_in_order.ensures
    (λ old _. stopped_at growth.holds before now stop.taken c.args.desk.now c.take_all.new.self stop.fault c.in-Err.ensures.stopped c.in-Err.ensures.fault old c.take_all.ensures.limited) k.1 h))
    c.keep_refusal.ensures
