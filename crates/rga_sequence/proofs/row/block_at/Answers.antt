-- The goals of `block_at` that are answered by hand.
use Rattle.std.proofs.Common.{◌≡◌, ◌+◌, ◌-◌, [], suc, ap, length, take, get_or, arith}
use Rattle.rga_sequence.specs.Blocks.{joined, offset}
use Rattle.rga_sequence.specs.BlockRows.{items_of}
use Rattle.rga_tree.proofs.Interface.{joined-suc}
use Rattle.rga_sequence.proofs.Passing.{items_there}
use Rattle.rga_sequence.proofs.Spots.{more_blocks}
use Rattle.rga_sequence.proofs.Numbers.{length-items}
use Rattle.rga_sequence.proofs.row.block_at.Goals as goal

pub loop-left-preserved : goal.loop-left-preserved
loop-left-preserved c =
    let bs = c.args.blocks.now in
    let xs = items_of bs in
    let i = c.loop-left.invariant in
    let b = c.loop-left.b in
    let len_xs : length xs ≡ length bs = length-items bs in
    let s : b + 1 ≡ suc b = omega arith in
    let here = items_there bs b c.index-blocks-b.result i.there in
    let again = items_there bs b c.index-blocks-b-in-loop-left.result i.there in
    let first : c.len.result ≡ length (get_or xs b []) = omega (arith, c.len.ensures, (get_or bs b c.index-blocks-b.result).elements.ok, ap length here) in
    let second : c.len-left.result ≡ length (get_or xs b []) = omega (arith, c.len-left.ensures, (get_or bs b c.index-blocks-b-in-loop-left.result).elements.ok, ap length again) in
    let place : offset xs (b + 1) (c.loop-left.left - c.len-left.result) ≡ c.args.j =
    omega (arith, i.place, joined-suc xs b, ap (λ k. length (joined (take k xs))) s, first, second, c.loop-left-test.true) in
    let more = more_blocks xs b (c.loop-left.left - c.len-left.result) c.args.j (omega (arith, i.there, len_xs)) (omega (arith, place, ap (λ k. length (joined (take k xs))) s)) i.within in
    record { place = place; within = i.within; there = omega (arith, more, len_xs, s) }
