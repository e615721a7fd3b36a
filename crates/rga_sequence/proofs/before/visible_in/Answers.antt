-- The goals of `visible_in` that are answered by hand.
use Rattle.std.proofs.Common.{◌≡◌, ◌+◌, ◌∙◌, [], take, get_or, sym, ap, arith}
use Rattle.rga_sequence.specs.Blocks.{seen, seen_all}
use Rattle.rga_sequence.specs.BlockRows.{items_of}
use Rattle.rga_sequence.specs.declared.block.Block.{Block}
use Rattle.rga_sequence.proofs.InFront.{seen_all-within}
use Rattle.rga_sequence.proofs.Passing.{items_there}
use Rattle.rga_sequence.proofs.Seen.{seen_all-more}
use Rattle.rga_sequence.proofs.before.visible_in.Goals as goal

pub loop-block-preserved : goal.loop-block-preserved
loop-block-preserved c =
    let bs = c.args.blocks.now in
    let i = c.loop-block.block-index in
    let x = c.block-item.result in
    let read : x.visible ≡ seen (get_or (items_of bs) i []) =
    x.counted ∙ ap (λ (y : Block). seen y.elements.items) c.block-item.is ∙ ap seen (sym (items_there bs i x c.loop-block-test.true)) in
    omega (arith, c.loop-block.invariant, seen_all-more (items_of bs) i, read)

pub overflow_add-visible : goal.overflow_add-visible
overflow_add-visible c =
    let xs = items_of c.args.blocks.now in
    let i = c.loop-block.block-index in
    let more : c.loop-block.visible + c.block-item.result.visible ≡ seen_all (take (i + 1) xs) = loop-block-preserved c in
    omega (arith, more, seen_all-within xs (i + 1), c.requires.few)
