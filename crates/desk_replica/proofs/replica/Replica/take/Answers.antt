-- The goals of `take` that are answered by hand.
use Rattle.std.proofs.Common.{◌≡◌}
use Rattle.desk_replica.proofs.Hearing.{answer_untold, unpaid_untold}
use Rattle.desk_replica.proofs.replica.Replica.take.Goals as goal

pub returns-clause-answer : goal.returns-clause-answer
returns-clause-answer g c = answer_untold c.take_to.result c.args.self.now.set c.args.op.now 0 (c.args.self.now.spare ≡ 0) c.take_to.ensures.answer c.take_to.ensures.unpaid

pub returns-clause-unpaid : goal.returns-clause-unpaid
returns-clause-unpaid g c = unpaid_untold c.take_to.result c.args.self.now.set c.args.op.now 0 (c.args.self.now.spare ≡ 0) _ c.take_to.ensures.unpaid
