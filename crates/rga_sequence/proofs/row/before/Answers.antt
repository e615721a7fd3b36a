-- The goals of `before` that are answered by hand.
use Rattle.std.proofs.Common.{◌≡◌, ◌+◌, ◌∙◌, sym, ap, true, rules}
use Rattle.bg_types.specs.Identifier.{same_id}
use Rattle.rga_tree.specs.declared.element.Element.{Element}
use Rattle.rga_sequence.proofs.Members.{until-there}
use Rattle.rga_sequence.proofs.row.before.Goals as goal

pub returns-then-eq : goal.returns-then-eq
returns-then-eq c =
    let e = c.index-row-likely.result in
    let same : same_id c.args.id e.id ≡ true = search rules in
    sym (until-there c.args.id c.args.row.now (c.past_eights-from.result + c.count.result) e c.requires c.if-likely-row.true
    (ap (λ (x : Element). same_id c.args.id x.id) (sym c.index-row-likely.is) ∙ same))
