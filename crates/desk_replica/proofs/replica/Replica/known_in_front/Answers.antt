-- The goals of `known_in_front` that are answered by hand.
use Rattle.std.proofs.Common.{take, get_or, sym, subst}
use Rattle.std.specs.Prelude.{All}
use Rattle.std.proofs.lemmas.List.Elements.{All-map, All-same, All-take}
use Rattle.bg_types.specs.OperationSet.{Holds}
use Rattle.rga_tree.specs.declared.element.Element.{Element}
use Rattle.desk_replica.specs.Desk.{Desk, insertion_of}
use Rattle.desk_replica.specs.Listed.{insertions_in}
use Rattle.desk_replica.proofs.Disagreeing.{placed_kept}
use Rattle.desk_replica.proofs.replica.Replica.known_in_front.Goals as goal

pub returns-clause-known : goal.returns-clause-known
returns-clause-known g c =
    let t = g.S.Sequence.content c.self.inside.seq in
    let own = c.ahead.result.now in
    let n = c.alike_in_front-known.result in
    let kept = λ (e : Element). Holds c.args.self.now.set (insertion_of e) in
    let all : All kept own = λ k d lt. subst (λ (x : Desk). Holds x.set (insertion_of (get_or own k d))) c.self.view_is (placed_kept t c.self.inside.held.held (get_or own k d) (c.ahead.ensures k d lt)) in
    All-same (Holds c.args.self.now.set) _ (insertions_in (take n own)) (sym c.alike_in_front-known.ensures.alike) (All-map (Holds c.args.self.now.set) insertion_of (take n own) (All-take kept n own all))
