-- The goal of `standing` that is answered by hand.
use Rattle.std.proofs.Common.{subst, arith}
use Rattle.bg_types.specs.OperationSet.{Holds, MayJoin}
use Rattle.desk_replica.specs.Desk.{Desk, insertion_of}
use Rattle.desk_replica.specs.Placement.{whole}
use Rattle.desk_replica.proofs.Counters.{newest-is_new}
use Rattle.desk_replica.proofs.replica.Replica.standing.Goals as goal

pub returns-then-counter-self : goal.returns-then-counter-self
returns-then-counter-self g c =
    let s = whole (g.S.Sequence.content c.self.inside.seq) c.self.inside.held in
    let op = insertion_of c.args.e.now in
    subst (λ (d : Desk). MayJoin d.set op × (¬ (Holds d.set op))) c.self.view_is (newest-is_new s op (omega (arith, c.self.invariant.counted.next_is, c.counter.ensures.value, c.if-counter-self.true)))
