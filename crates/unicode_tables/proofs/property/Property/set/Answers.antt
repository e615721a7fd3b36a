-- The goals of `set` that are answered by hand.
use Rattle.std.proofs.Common.{◌∙◌, cond, leb, ap, get_or, arith}
use Rattle.std.specs.Prelude.{◌&&◌}
use Rattle.unicode_tables.proofs.Properties.{listed-set}
use Rattle.unicode_tables.proofs.property.Property.set.Goals as goal

pub returns-clause-ok : goal.returns-clause-ok
returns-clause-ok g c = λ k d h.
    let p = c.self.inside in
    listed-set p.blocks c.set.new.self p.first c.args.value c.args.first c.args.last c.min-last.result (omega arith) c.in_ok-set.ensures.ok k d h
    ∙ ap (λ values. cond (leb c.args.first k && leb k c.args.last) c.args.value (get_or values k d)) c.self.view_is
