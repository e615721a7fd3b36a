-- The goals of `take_of_kind` that are answered by hand.
use Rattle.std.proofs.Common.{refl, arith}
use Rattle.desk_replica.proofs.Hearing.{heard_nothing}
use Rattle.desk_replica.proofs.replica.Replica.take_of_kind.Goals as goal

pub returns-then-deletes-deletions-clause-heard : goal.returns-then-deletes-deletions-clause-heard
returns-then-deletes-deletions-clause-heard g c =
    heard_nothing c.args.self.now.set c.args.self.now.set (g.L.Listener.told c.args.listener.now) (g.L.Listener.told c.args.listener.now) (g.L.Listener.capacity c.args.listener.now) (g.L.Listener.capacity c.args.listener.now)
    c.requires.well_formed refl refl (omega arith)
