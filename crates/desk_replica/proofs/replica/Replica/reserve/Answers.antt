-- The goals of `reserve` that are answered by hand.
use Rattle.std.proofs.Common.{arith}
use Rattle.desk_replica.proofs.FirstTurn.{held_within}
use Rattle.desk_replica.proofs.replica.Replica.reserve.Goals as goal

pub make_room-requires-clause-few : goal.make_room-requires-clause-few
make_room-requires-clause-few g c =
    let few = held_within (g.S.Sequence.content c.self.inside.seq) c.self.inside.held.held in
    omega (arith, few, c.self.invariant.counted.kept_is, c.self.invariant.counted.limited)
