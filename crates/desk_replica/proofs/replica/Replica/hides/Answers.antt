-- The goals of `hides` that are answered by hand.
use Rattle.std.proofs.Common.{◌≡◌, sym, subst, rules}
use Rattle.std.specs.Prelude.{Contains}
use Rattle.std.proofs.lemmas.Bool.{OnTrue_from}
use Rattle.bg_types.specs.Identifier.{Identifier}
use Rattle.bg_types.specs.OperationSet.{Holds}
use Rattle.bg_types.specs.declared.op.OpView.TheVariants.{Erase}
use Rattle.rga_tree.specs.Elements.{elements}
use Rattle.desk_replica.specs.Desk.{Desk}
use Rattle.desk_replica.specs.Placement.{whole}
use Rattle.desk_replica.proofs.Disagreeing.{hidden_kept}
use Rattle.desk_replica.proofs.replica.Replica.hides.Goals as goal

pub returns-then-eq : goal.returns-then-eq
returns-then-eq g c =
    let t = g.S.Sequence.content c.self.inside.seq in
    let own = c.in-Some.own.now in
    let first = c.in-Some.ensures.item in
    let there : Contains (elements t) own = subst (Contains (elements t)) (sym first.1) (c.ahead.ensures 0 own first.3.0) in
    let same : own.id ≡ c.args.id = search rules in
    OnTrue_from _ (Holds c.args.self.now.set (Erase c.args.id))
    (λ hidden.
    let kept : Holds (whole t c.self.inside.held) (Erase own.id) = hidden_kept t c.self.inside.held.held own there hidden in
    subst (λ (q : Identifier). Holds c.args.self.now.set (Erase q)) same (subst (λ (d : Desk). Holds d.set (Erase own.id)) c.self.view_is kept))
