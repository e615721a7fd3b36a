-- The goals of `id_at` that are answered by hand.
use Rattle.std.proofs.Common.{◌<◌, List, length, ap, sym, subst, ◌∙◌}
use Rattle.std.specs.Prelude.{slice_get, map as each}
use Rattle.bg_types.specs.Identifier.{Identifier}
use Rattle.bg_types.specs.OperationSet.{Node}
use Rattle.desk_replica.proofs.Desks.{reads, well_formed_desk}
use Rattle.desk_replica.proofs.replica.Replica.id_at.Goals as goal

pub id_at-requires : goal.id_at-requires
id_at-requires g c = let v = ap length (reads (g.S.Sequence.content c.self.inside.seq) c.self.inside.held c.self.inside.site c.self.inside.spare c.args.self.now (record { well = g.met.S.Sequence.well_formed c.self.inside.seq; tree = g.met.S.Sequence.is_tree c.self.inside.seq; only = g.met.S.Sequence.only_placed c.self.inside.seq }) c.self.invariant.settled c.self.view_is).visible_is in subst (λ n. c.args.place < n) (sym v) c.requires

pub returns-clause-value : goal.returns-clause-value
returns-clause-value g c =
    let v = (reads (g.S.Sequence.content c.self.inside.seq) c.self.inside.held c.self.inside.site c.self.inside.spare c.args.self.now (record { well = g.met.S.Sequence.well_formed c.self.inside.seq; tree = g.met.S.Sequence.is_tree c.self.inside.seq; only = g.met.S.Sequence.only_placed c.self.inside.seq }) c.self.invariant.settled c.self.view_is).visible_is in
    sym (ap (λ (es : List (Identifier × Node)). slice_get (each (λ e. e.0) es) c.args.place) v) ∙ c.id_at.ensures.value

pub returns-clause-well_formed : goal.returns-clause-well_formed
returns-clause-well_formed g c = well_formed_desk (g.S.Sequence.content c.self.inside.seq) c.self.inside.held c.self.inside.site c.self.inside.spare c.args.self.now (record { well = g.met.S.Sequence.well_formed c.self.inside.seq; tree = g.met.S.Sequence.is_tree c.self.inside.seq; only = g.met.S.Sequence.only_placed c.self.inside.seq }) c.self.invariant.settled c.self.view_is
