-- What was listed is what the desk tells.
use Rattle.std.proofs.Common.{◌++◌, List, ap, ◌∙◌}
use Rattle.bg_types.specs.declared.op.OpView.{OpView}
use Rattle.rga_tree.specs.Elements.{elements}
use Rattle.desk_replica.specs.Placement.{waiting_in}
use Rattle.desk_replica.specs.Listed.{insertions_in, deletions_in}
use Rattle.desk_replica.proofs.Listed.{listed_is, listed_once}
use Rattle.desk_replica.proofs.replica.Replica.ops.Goals as goal

pub returns-clause-listed : goal.returns-clause-listed
returns-clause-listed g c =
    let seq = c.self.inside.seq in
    let held = c.self.inside.held in
    let row = elements (g.S.Sequence.content seq) in
    c.in_ok-push_waiting.ensures
    ∙ ap (λ (l : List OpView). l ++ waiting_in held) (c.in_ok-push_deletions.ensures
    ∙ ap (λ (l : List OpView). l ++ deletions_in row) (c.in_ok-push_insertions.ensures ∙ ap (λ (l : List OpView). l ++ insertions_in row) c.in_ok-ops.ensures.items))
    ∙ listed_is (g.S.Sequence.content seq) held c.self.inside.site c.self.inside.spare c.args.self.now (record { well = g.met.S.Sequence.well_formed seq; tree = g.met.S.Sequence.is_tree seq; only = g.met.S.Sequence.only_placed seq }) c.self.invariant.settled c.self.view_is

pub returns-clause-each_once : goal.returns-clause-each_once
returns-clause-each_once g c =
    let seq = c.self.inside.seq in
    listed_once (g.S.Sequence.content seq) c.self.inside.held c.self.inside.site c.self.inside.spare c.args.self.now (record { well = g.met.S.Sequence.well_formed seq; tree = g.met.S.Sequence.is_tree seq; only = g.met.S.Sequence.only_placed seq }) c.self.invariant.settled c.self.view_is c.count_waiting-waiting.ensures.each_once
