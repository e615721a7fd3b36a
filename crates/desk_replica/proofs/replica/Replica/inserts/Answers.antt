-- The goals of `inserts` that are answered by hand.
use Rattle.std.proofs.Common.{◌≡◌, Option, None, Some, is_some, sym, ap, ◌∙◌, refl}
use Rattle.std.specs.Option.{option_map}
use Rattle.std.specs.FinMap as map
use Rattle.std.proofs.lemmas.Bool.{OnTrue_at}
use Rattle.bg_types.specs.OperationSet.{Node}
use Rattle.bg_types.specs.declared.op.OpView.TheVariants.{Insert}
use Rattle.desk_replica.specs.Desk.{Desk}
use Rattle.desk_replica.proofs.Growing.{inserted_first, inserted_second}
use Rattle.desk_replica.proofs.replica.Replica.inserts.Goals as goal

pub returns-then-is_beyond : goal.returns-then-is_beyond
returns-then-is_beyond g c = sym (OnTrue_at c.if-is_beyond.true c.is_beyond.ensures)

pub returns-then-has : goal.returns-then-has
returns-then-has g c =
    let t = g.S.Sequence.content c.self.inside.seq in
    c.if-has.true ∙ sym (ap (λ (d : Desk). map.contains_key d.set.ins c.args.id) (sym c.self.view_is) ∙ inserted_first t c.self.inside.held.held c.args.id (sym c.has.ensures ∙ c.if-has.true))

pub returns-else-has : goal.returns-else-has
returns-else-has g c =
    let t = g.S.Sequence.content c.self.inside.seq in
    c.is_some.ensures ∙ ap is_some c.insertion.ensures ∙ mapped (map.get c.self.inside.held.held.ins c.args.id)
    ∙ sym (ap (λ (d : Desk). map.contains_key d.set.ins c.args.id) (sym c.self.view_is) ∙ inserted_second t c.self.inside.held.held c.args.id (sym c.has.ensures ∙ c.if-has.false))
  where
    mapped : (o : Option Node) → is_some (option_map (λ (node : Node). Insert c.args.id node.parent node.ch) o) ≡ is_some o
    mapped None = refl
    mapped (Some n) = refl
