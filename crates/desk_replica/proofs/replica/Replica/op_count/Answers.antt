-- The goals of `op_count` that are answered by hand.
use Rattle.desk_replica.proofs.Desks.{well_formed_desk}
use Rattle.desk_replica.proofs.replica.Replica.op_count.Goals as goal

pub returns-clause-well_formed : goal.returns-clause-well_formed
returns-clause-well_formed g c = well_formed_desk (g.S.Sequence.content c.self.inside.seq) c.self.inside.held c.self.inside.site c.self.inside.spare c.args.self.now (record { well = g.met.S.Sequence.well_formed c.self.inside.seq; tree = g.met.S.Sequence.is_tree c.self.inside.seq; only = g.met.S.Sequence.only_placed c.self.inside.seq }) c.self.invariant.settled c.self.view_is
