-- The goals of `new` that are answered by hand.
use Rattle.desk_replica.proofs.Desks.{IsDesk-fresh, fresh_view}
use Rattle.desk_replica.proofs.replica.Replica.new.Goals as goal

pub invariant_of-result : goal.invariant_of-result
invariant_of-result g c = IsDesk-fresh (g.S.Sequence.content c.args.seq) (g.S.Sequence.free c.args.seq) c.keyed.result c.args.site c.requires.empty c.keyed.ensures c.requires.site

pub returns : goal.returns
returns g c = fresh_view (g.S.Sequence.content c.args.seq) c.keyed.result c.args.site c.requires.empty c.keyed.ensures
