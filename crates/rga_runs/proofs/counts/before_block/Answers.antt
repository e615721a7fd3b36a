-- The goals of `before_block` that are answered by hand.
use Rattle.std.proofs.Common.{arith}
use Rattle.rga_runs.specs.BlockRows.{items_of}
use Rattle.rga_runs.specs.Stretches.{visible_of}
use Rattle.rga_runs.proofs.Sums.{sum_front}
use Rattle.rga_runs.proofs.Summed.{sums-before}
use Rattle.rga_runs.proofs.counts.before_block.Goals as goal

pub total-requires : goal.total-requires
total-requires c =
    let bs = c.args.blocks.now in
    let b = c.args.b in
    let all = sums-before c.args.sums.now bs c.min-g.result b c.requires.sums (omega (arith, c.min-g.ensures)) (omega (arith, c.min-g.ensures)) in
    record { few = omega (arith, all, sum_front visible_of (items_of bs) b, c.requires.few) }

pub visible_in_blocks-requires : goal.visible_in_blocks-requires
visible_in_blocks-requires c =
    let bs = c.args.blocks.now in
    let b = c.args.b in
    let all = sums-before c.args.sums.now bs c.min-g.result b c.requires.sums (omega (arith, c.min-g.ensures)) (omega (arith, c.min-g.ensures)) in
    record { few = omega (arith, all, sum_front visible_of (items_of bs) b, c.requires.few) }

pub returns : goal.returns
returns c =
    let bs = c.args.blocks.now in
    let b = c.args.b in
    let all = sums-before c.args.sums.now bs c.min-g.result b c.requires.sums (omega (arith, c.min-g.ensures)) (omega (arith, c.min-g.ensures)) in
    omega (arith, all, c.total.ensures, c.visible_in_blocks.ensures)

pub overflow_add-result : goal.overflow_add-result
overflow_add-result c =
    let bs = c.args.blocks.now in
    let b = c.args.b in
    let all = sums-before c.args.sums.now bs c.min-g.result b c.requires.sums (omega (arith, c.min-g.ensures)) (omega (arith, c.min-g.ensures)) in
    omega (arith, all, c.total.ensures, c.visible_in_blocks.ensures, sum_front visible_of (items_of bs) b, c.requires.few)
