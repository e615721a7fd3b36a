-- The goal of `is_beyond` that is answered by hand.
use Rattle.std.proofs.Common.{◌≡◌, false, subst, arith}
use Rattle.std.specs.FinMap as map
use Rattle.std.proofs.lemmas.Bool.{OnTrue_from, ltb-true}
use Rattle.desk_replica.specs.Desk.{Desk}
use Rattle.desk_replica.specs.Placement.{whole}
use Rattle.desk_replica.proofs.Counters.{beyond-is_new}
use Rattle.desk_replica.proofs.replica.Replica.is_beyond.Goals as goal

pub returns : goal.returns
returns g c =
    let s = whole (g.S.Sequence.content c.self.inside.seq) c.self.inside.held in
    OnTrue_from _ (map.contains_key c.args.self.now.set.ins c.args.id ≡ false)
    (λ yes. subst (λ (d : Desk). map.contains_key d.set.ins c.args.id ≡ false) c.self.view_is (beyond-is_new s c.args.id (omega (arith, c.self.invariant.counted.next_is, c.counter.ensures.value, ltb-true _ _ yes))))
