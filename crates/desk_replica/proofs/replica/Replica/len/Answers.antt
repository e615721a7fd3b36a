-- The goals of `len` that are answered by hand.
use Rattle.std.proofs.Common.{length, ap, ◌∙◌}
use Rattle.desk_replica.proofs.Desks.{reads}
use Rattle.desk_replica.proofs.replica.Replica.len.Goals as goal

pub returns : goal.returns
returns g c = c.len.ensures ∙ ap length (reads (g.S.Sequence.content c.self.inside.seq) c.self.inside.held c.self.inside.site c.self.inside.spare c.args.self.now (record { well = g.met.S.Sequence.well_formed c.self.inside.seq; tree = g.met.S.Sequence.is_tree c.self.inside.seq; only = g.met.S.Sequence.only_placed c.self.inside.seq }) c.self.invariant.settled c.self.view_is).visible_is
