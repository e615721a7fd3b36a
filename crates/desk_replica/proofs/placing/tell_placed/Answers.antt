-- The goals of `tell_placed` that are answered by hand.
use Rattle.desk_replica.proofs.Tellings.{told_nothing}
use Rattle.desk_replica.proofs.placing.tell_placed.Goals as goal

pub returns-then-hidden-clause-told : goal.returns-then-hidden-clause-told
returns-then-hidden-clause-told g c = rw (c.if-hidden.true) (told_nothing (g.L.Listener.told c.args.listener.now))

pub returns-clause-told : goal.returns-clause-told
returns-clause-told g c = rw (c.if-hidden.false) c.hear_put.ensures.told
