-- The goals of `disagrees` that are answered by hand.
use Rattle.std.proofs.Common.{subst}
use Rattle.std.proofs.lemmas.Bool.{OnTrue_at, OnTrue_from, OnFalse_at, OnFalse_from}
use Rattle.bg_types.specs.OperationSet.{Agree}
use Rattle.desk_replica.specs.Desk.{Desk}
use Rattle.desk_replica.specs.Merging.{Disagree}
use Rattle.desk_replica.proofs.Disagreeing.{agree_both, disagree_first, disagree_second}
use Rattle.desk_replica.proofs.replica.Replica.disagrees.Goals as goal

pub returns-then-disagrees_placed-clause-yes : goal.returns-then-disagrees_placed-clause-yes
returns-then-disagrees_placed-clause-yes g c =
    let s = c.args.self.now.set in
    OnTrue_from c.disagrees_placed.result _ (λ _. subst (λ (d : Desk). Disagree s d.set) c.other.view_is
    (disagree_first s (g.S.Sequence.content c.other.inside.seq) c.other.inside.held (record { well = g.met.S.Sequence.well_formed c.other.inside.seq; tree = g.met.S.Sequence.is_tree c.other.inside.seq; only = g.met.S.Sequence.only_placed c.other.inside.seq }) c.other.invariant.settled c.if-disagrees_placed.ensures.yes))

pub returns-else-disagrees_placed-clause-yes : goal.returns-else-disagrees_placed-clause-yes
returns-else-disagrees_placed-clause-yes g c =
    let s = c.args.self.now.set in
    OnTrue_from c.disagrees_waiting.result _ (λ e. subst (λ (d : Desk). Disagree s d.set) c.other.view_is
    (disagree_second s (g.S.Sequence.content c.other.inside.seq) c.other.inside.held (record { well = g.met.S.Sequence.well_formed c.other.inside.seq; tree = g.met.S.Sequence.is_tree c.other.inside.seq; only = g.met.S.Sequence.only_placed c.other.inside.seq }) c.other.invariant.settled (OnTrue_at e c.disagrees_waiting.ensures.yes)))

pub returns-else-disagrees_placed-clause-no : goal.returns-else-disagrees_placed-clause-no
returns-else-disagrees_placed-clause-no g c =
    let s = c.args.self.now.set in
    OnFalse_from c.disagrees_waiting.result _ (λ e. subst (λ (d : Desk). Agree s d.set) c.other.view_is
    (agree_both s (g.S.Sequence.content c.other.inside.seq) c.other.inside.held (record { well = g.met.S.Sequence.well_formed c.other.inside.seq; tree = g.met.S.Sequence.is_tree c.other.inside.seq; only = g.met.S.Sequence.only_placed c.other.inside.seq }) c.other.invariant.settled c.if-disagrees_placed.ensures.no (OnFalse_at e c.disagrees_waiting.ensures.no)))
