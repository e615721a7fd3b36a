-- The goals of `nth` that are answered by hand.
use Rattle.std.proofs.Common.{◌≡◌, ◌<◌, ◌∙◌, [], ap, sym, length, get_or, arith}
use Rattle.std.specs.Prelude.{slice_get}
use Rattle.rga_sequence.specs.Blocks.{offset}
use Rattle.rga_sequence.specs.BlockRows.{items_of}
use Rattle.rga_sequence.specs.Indexed.{elements_in}
use Rattle.rga_tree.proofs.Interface.{slice_get_joined}
use Rattle.rga_sequence.proofs.Whole.{element_is}
use Rattle.rga_sequence.proofs.Numbers.{length-items}
use Rattle.rga_sequence.proofs.blocks.BlocksSequence.nth.Goals as goal

pub returns : goal.returns
returns c =
    let bs = c.args.self.now.row.blocks.items in
    let xs = items_of bs in
    let b = c.block_at-b.result.0 in
    let at = c.block_at-b.result.1 in
    let len_xs : length xs ≡ length bs = length-items bs in
    let same = c.deref.ensures.value in
    let there : b < length xs = omega (arith, len_xs, c.block_at-b.ensures.block, ap length same) in
    let within : at < length (get_or xs b []) = omega (arith, c.block_at-b.ensures.within, ap (λ d. length (get_or (items_of d) b [])) same) in
    let place : offset xs b at ≡ c.args.j = ap (λ d. offset (items_of d) b at) (sym same) ∙ c.block_at-b.ensures.place in
    ap (λ r. slice_get r c.args.j) (sym c.args.self.now.keeps_walk.in_order) ∙ ap (slice_get (elements_in c.args.self.now.row)) (sym place)
    ∙ slice_get_joined xs b at there within ∙ element_is bs b at c.index.result.now c.index-2.result.now within c.index.ensures c.index-2.ensures
