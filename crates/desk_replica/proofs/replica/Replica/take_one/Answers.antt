-- The goals of `take_one` that are answered by hand.
use Rattle.desk_replica.proofs.Growing.{desk_with, held_with, taken_joins}
use Rattle.desk_replica.proofs.replica.Replica.take_one.Goals as goal

pub returns-clause-grown : goal.returns-clause-grown
returns-clause-grown g c =
    desk_with c.args.self.now c.take_to.new.self c.args.op.now (taken_joins c.args.self.now.set c.args.op.now c.in_ok-taken.taken c.in_ok-taken.ensures.answer) c.in_ok-taken.ensures.ok c.in_ok-taken.ensures.site c.take_to.ensures.spare

pub returns-clause-ok : goal.returns-clause-ok
returns-clause-ok g c =
    held_with c.args.self.now.set c.take_to.new.self.set c.args.op.now (taken_joins c.args.self.now.set c.args.op.now c.in_ok-taken.taken c.in_ok-taken.ensures.answer) c.in_ok-taken.ensures.ok
