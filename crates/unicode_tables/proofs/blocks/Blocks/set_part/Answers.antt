-- The goals of `set_part` that are answered by hand.
use Rattle.std.proofs.Common.{◌<◌, ◌∙◌, [], cond, leb, ltb, get_or, length, ap, arith}
use Rattle.std.specs.Prelude.{◌&&◌}
use Rattle.std.proofs.lemmas.List.{get_or_default}
use Rattle.unicode_tables.proofs.BlockValues.{set_part-value}
use Rattle.unicode_tables.proofs.blocks.Blocks.set_part.Goals as goal

pub set-requires : goal.set-requires
set-requires g c =
    let pages = c.args.self.now.pages.items in
    let below : c.args.block < length pages = omega (arith, c.requires.whole.pages) in
    omega (arith, c.requires.whole.full c.args.block c.requires.paged, c.requires.within, ap length (c.index_mut.ensures.value ∙ get_or_default pages c.args.block c.index_mut.result.now [] below))

pub returns-clause-value : goal.returns-clause-value
returns-clause-value g c = λ k d.
    let blocks = c.args.self.now in
    let pages = blocks.pages.items in
    let below : c.args.block < length pages = omega (arith, c.requires.whole.pages) in
    set_part-value blocks.paged.items pages blocks.values.items c.args.block c.args.from c.args.to c.args.value c.set.new.self k d
    below c.requires.within c.requires.paged
    (λ j e. c.set.ensures.value j e
    ∙ ap (λ p. cond (leb c.args.from j && ltb j c.args.to) c.args.value (get_or p j e)) (c.index_mut.ensures.value ∙ get_or_default pages c.args.block c.index_mut.result.now [] below))
