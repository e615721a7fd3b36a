-- The goals of `make_room` that are answered by hand.
use Rattle.std.proofs.Common.{Some, arith}
use Rattle.desk_replica.proofs.Hearing.{room_counted}
use Rattle.desk_replica.proofs.listener.VecChangeListener.make_room.Goals as goal

pub returns-clause-ok : goal.returns-clause-ok
returns-clause-ok c =
    room_counted (Some c.reserve.new.self.items) c.reserve.new.self.cap c.args.held.now.held c.args.op.now c.most_told.result c.most_told.ensures.most (omega (arith, c.in_ok-reserve.ensures.ok))
