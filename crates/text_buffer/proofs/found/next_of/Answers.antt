-- The next one stands behind it in its block, or is the first of the next block.
use Rattle.std.proofs.Common.{◌+◌, ◌<◌, length, refl, arith}
use Rattle.text_buffer.proofs.Founds.{row-some, texts-length, length-more}
use Rattle.text_buffer.proofs.found.next_of.Goals as goal

pub overflow_add-found : goal.overflow_add-found
overflow_add-found g c = omega (arith, texts-length c.args.blocks.now c.args.found.block c.requires.found.block, c.requires.found.inside, c.requires.fits.paragraphs)

pub returns-then-found-count_in-clause-some : goal.returns-then-found-count_in-clause-some
returns-then-found-count_in-clause-some g c =
    let s = c.requires.found in
    (λ _. omega (arith, texts-length c.args.blocks.now c.args.found.block s.block, c.if-found-count_in.true, c.count_in.ensures, s.number), λ _. refl)

pub on_to-requires-2-clause-inside : goal.on_to-requires-2-clause-inside
on_to-requires-2-clause-inside g c = row-some c.args.blocks.now (c.args.found.block + 1) (omega (arith, c.if-found-blocks.false, c.requires.found.block))

pub returns-clause-some : goal.returns-clause-some
returns-clause-some g c =
    let bs = c.args.blocks.now in
    let s = c.requires.found in
    let q = c.args.found.block in
    let next : q + 1 < length bs = omega (arith, c.if-found-blocks.false, s.block) in
    (λ _. omega (arith, s.inside, s.number, c.if-found-count_in.false, c.count_in.ensures, length-more bs q s.block, texts-length bs (q + 1) next, row-some bs (q + 1) next), λ _. refl)
