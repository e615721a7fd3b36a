-- The goals of `is_even` that are answered by hand.
use Rattle.std.proofs.Common.{◌<◌, ◌+◌, ◌*◌, ◌∙◌, false, length, ap, sym, get_or, arith}
use Rattle.std.proofs.lemmas.List.{get_or_default}
use Rattle.unicode_tables.proofs.Properties.{even-same, not_on}
use Rattle.unicode_tables.proofs.property.Property.is_even.Goals as goal

pub returns : goal.returns
returns g c = λ on k d h.
    let p = c.self.inside in
    let block = c.args.block in
    let paged = p.blocks.paged.items in
    let below : block < length paged = omega (arith, c.self.invariant.paged, c.requires) in
    ap (λ values. get_or values (block * 256 + k) d) (sym c.self.view_is)
    ∙ even-same p.blocks p.first block k d
    (get_or_default paged block false c.index.result.now below ∙ sym c.index.ensures ∙ not_on c.index.result.now on) c.requires h
    ∙ ap (λ values. get_or values (block * 256) d) c.self.view_is
