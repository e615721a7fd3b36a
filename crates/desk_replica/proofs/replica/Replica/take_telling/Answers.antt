-- The goals of `take_telling` that are answered by hand.
use Rattle.std.proofs.lemmas.Result.{IfErr-weaker, on_err_weaker}
use Rattle.std.proofs.Common.{◌≡◌, ◌+◌, Some, arith}
use Rattle.desk_replica.specs.Telling.{waiting_count}
use Rattle.desk_replica.proofs.Hearing.{few_told, paid_for, room_counted, size_taken}
use Rattle.desk_replica.proofs.Tellings.{told_list}
use Rattle.desk_replica.proofs.replica.Replica.take_telling.Goals as goal

pub returns-clause-told : goal.returns-clause-told
returns-clause-told g c = told_list c.args.self.now.set c.take_to.new.self.set c.args.changes.now.items c.take_to.new.listener.items c.take_to.ensures.heard.tells

pub returns-clause-untold : goal.returns-clause-untold
returns-clause-untold g c = on_err_weaker c.take_to.result (λ h. let same : Some c.take_to.new.listener.items ≡ Some c.args.changes.now.items = h in cc) c.take_to.ensures.untold

pub returns-clause-unpaid : goal.returns-clause-unpaid
returns-clause-unpaid g c = λ n most room.
    IfErr-weaker c.take_to.result _ _ (λ fault h memory. h memory (room_counted (Some c.args.changes.now.items) c.args.changes.now.cap c.args.self.now.set c.args.op.now n most (omega (arith, room)))) c.take_to.ensures.unpaid

pub returns-clause-one : goal.returns-clause-one
returns-clause-one g c = size_taken c.take_to.result c.args.self.now c.take_to.new.self c.args.op.now c.take_to.ensures.ok c.take_to.ensures.err

pub returns-clause-few : goal.returns-clause-few
returns-clause-few g c =
    let one = size_taken c.take_to.result c.args.self.now c.take_to.new.self c.args.op.now c.take_to.ensures.ok c.take_to.ensures.err in
    let few = few_told c.args.self.now.set c.take_to.new.self.set (Some c.args.changes.now.items) (Some c.take_to.new.listener.items) c.args.changes.now.cap c.take_to.new.listener.cap c.take_to.ensures.heard one in
    omega (arith, few)

pub returns-clause-paid : goal.returns-clause-paid
returns-clause-paid g c = λ room spare. paid_for c.take_to.result (Some c.args.changes.now.items) c.args.changes.now.cap (waiting_count c.args.self.now.set + 1) c.args.self.now.spare (omega (arith, room)) spare c.take_to.ensures.short
