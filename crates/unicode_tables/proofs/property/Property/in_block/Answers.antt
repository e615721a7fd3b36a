-- The goals of `in_block` that are answered by hand.
use Rattle.std.proofs.Common.{◌+◌, ◌*◌, ap, ◌∙◌, sym, get_or, arith}
use Rattle.unicode_tables.proofs.BlockValues.{value-in_block}
use Rattle.unicode_tables.proofs.Properties.{listed}
use Rattle.unicode_tables.proofs.property.Property.in_block.Goals as goal

pub returns : goal.returns
returns g c = λ d.
    let p = c.self.inside in
    let blocks = p.blocks in
    let point = c.args.block * 256 + c.args.place in
    c.in_block.ensures p.first
    ∙ value-in_block blocks.paged.items blocks.pages.items blocks.values.items c.args.block c.args.place p.first c.requires.place
    ∙ sym (listed blocks p.first point d (omega arith))
    ∙ ap (λ values. get_or values point d) c.self.view_is
