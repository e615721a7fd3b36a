-- The goals of `at` that are answered by hand.
use Rattle.std.proofs.Common.{ap, ◌∙◌, sym, get_or, arith}
use Rattle.unicode_tables.proofs.Properties.{listed}
use Rattle.unicode_tables.proofs.property.Property.at.Goals as goal

pub returns : goal.returns
returns g c = λ d.
    let p = c.self.inside in
    c.at.ensures p.first ∙ sym (listed p.blocks p.first c.args.c d (omega arith)) ∙ ap (λ values. get_or values c.args.c d) c.self.view_is
