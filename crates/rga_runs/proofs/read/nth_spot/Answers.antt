-- The goals of `nth_spot` that are answered by hand.
use Rattle.std.proofs.Common.{◌<◌, ◌≤◌, ◌∙◌, [], List, length, take, get_or, sym, ap, arith}
use Rattle.rga_runs.specs.declared.stretch.Stretch.{Stretch}
use Rattle.rga_runs.specs.Stretches.{count_in}
use Rattle.rga_runs.specs.BlockRows.{items_of}
use Rattle.rga_runs.proofs.BlockLists.{items_at, length-items}
use Rattle.rga_runs.proofs.Sums.{sum_before, sum_next}
use Rattle.rga_runs.proofs.read.nth_spot.Goals as goal

pub loop-b-preserved : goal.loop-b-preserved
loop-b-preserved c =
    let x = c.index-blocks-b.result in
    let is = x.counted in
    omega (arith, c.loop-b.invariant, sum_next (λ (s : Stretch). s.count) c.args.blocks.now c.loop-b.b x c.loop-b-test.true c.index-blocks-b.is, is, c.if-left-count.false)

pub returns-then-left-count-clause-place : goal.returns-then-left-count-clause-place
returns-then-left-count-clause-place c =
    let bs = c.args.blocks.now in
    let xs = items_of bs in
    let b = c.loop-b.b in
    let j = c.spot_of-j.result.0 in
    let here = items_at bs b c.index-blocks-b.result c.loop-b-test.true c.index-blocks-b.is in
    let read = c.deref.ensures.value in
    let there : b < length xs = omega (arith, length-items bs, c.loop-b-test.true) in
    let within : j ≤ length (get_or xs b []) = omega (arith, ap length here, ap length read, c.spot_of-j.ensures.block) in
    omega (arith, sum_before (λ (s : Stretch). s.count) xs b j there within, c.loop-b.invariant, c.spot_of-j.ensures.place, ap (λ (l : List Stretch). count_in (take j l)) (read ∙ sym here))
