-- The goals of `merge_telling` that are answered by hand.
use Rattle.std.proofs.Common.{arith}
use Rattle.desk_replica.proofs.Tellings.{told_list}
use Rattle.desk_replica.proofs.replica.Replica.merge_telling.Goals as goal

pub returns-clause-told : goal.returns-clause-told
returns-clause-told g c = told_list c.args.self.now.set c.merge_to.new.self.set c.args.changes.now.items c.merge_to.new.listener.items c.merge_to.ensures.heard.tells

pub returns-clause-unpaid : goal.returns-clause-unpaid
returns-clause-unpaid g c = λ room. c.merge_to.ensures.unpaid (omega (arith, room))
