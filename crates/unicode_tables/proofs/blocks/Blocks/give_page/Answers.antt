-- The goals of `give_page` that are answered by hand.
use Rattle.std.proofs.Common.{◌<◌, ◌∙◌, false, length, sym, arith}
use Rattle.std.proofs.lemmas.List.{get_or_default}
use Rattle.unicode_tables.proofs.BlockValues.{give_page-value}
use Rattle.unicode_tables.proofs.blocks.Blocks.give_page.Goals as goal

pub returns-clause-same : goal.returns-clause-same
returns-clause-same g c = λ k d.
    let blocks = c.args.self.now in
    let paged = blocks.paged.items in
    let block = c.args.block in
    let below : block < length paged = omega (arith, c.requires.whole.paged) in
    give_page-value paged blocks.pages.items blocks.values.items block c.index-value.result.now c.set_all.new.self k d
    below (omega (arith, c.requires.whole.pages)) (omega (arith, c.requires.whole.values))
    (get_or_default paged block false c.index.result.now below ∙ sym c.index.ensures ∙ c.if-index.false)
    c.index-value.ensures
    c.in_ok-set_all.ensures.value
