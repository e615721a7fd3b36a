-- The goals of `move_on` that are answered by hand.
use Rattle.std.proofs.Common.{◌≡◌, ◌<◌, ◌+◌, ◌-◌, ◌*◌, ◌∙◌, [], length, get_or, sym, ap, arith}
use Rattle.rga_runs.specs.Stretches.{visible_in}
use Rattle.rga_runs.specs.BlockRows.{items_of}
use Rattle.rga_runs.proofs.BlockLists.{items_there, length-items}
use Rattle.rga_runs.proofs.Summed.{sums-moved, sums-moving}
use Rattle.rga_runs.proofs.counts.move_on.Goals as goal

pub overflow_add-sums : goal.overflow_add-sums
overflow_add-sums c =
    let there : c.loop-g.g < length c.loop-g.sums = omega (arith, c.loop-g-test.true, c.loop-g.auto.sums) in
    let fits = sums-moving c.loop-g.sums (items_of c.args.blocks.now) c.loop-g.g c.loop-g.came there c.loop-g.invariant in
    omega (arith, fits.0, c.requires.few)

pub overflow_sub-sums : goal.overflow_sub-sums
overflow_sub-sums c =
    let bs = c.args.blocks.now in
    let xs = items_of bs in
    let g = c.loop-g.g in
    let x = get_or bs (32 * (g + 1)) c.index-blocks-next.result in
    let i = c.loop-g.invariant in
    let there : g < length c.loop-g.sums = omega (arith, c.loop-g-test.true, c.loop-g.auto.sums) in
    let within : 32 * (g + 1) < length bs = omega (arith, there, i.whole, length-items bs) in
    let gone : x.visible ≡ visible_in (get_or xs (32 * (g + 1)) []) = x.visible_are ∙ sym (ap visible_in (items_there bs (32 * (g + 1)) c.index-blocks-next.result within)) in
    let fits = sums-moving c.loop-g.sums xs g c.loop-g.came there i in
    omega (arith, fits.1, gone)

pub loop-g-preserved : goal.loop-g-preserved
loop-g-preserved c =
    let bs = c.args.blocks.now in
    let xs = items_of bs in
    let ss = c.loop-g.sums in
    let g = c.loop-g.g in
    let came = c.loop-g.came in
    let x = get_or bs (32 * (g + 1)) c.index-blocks-next.result in
    let i = c.loop-g.invariant in
    let there : g < length ss = omega (arith, c.loop-g-test.true, c.loop-g.auto.sums) in
    let within : 32 * (g + 1) < length bs = omega (arith, there, i.whole, length-items bs) in
    let gone : x.visible ≡ visible_in (get_or xs (32 * (g + 1)) []) = x.visible_are ∙ sym (ap visible_in (items_there bs (32 * (g + 1)) c.index-blocks-next.result within)) in
    let fits = sums-moving ss xs g came there i in
    sums-moved ss xs g came x.visible (get_or ss g 0 + came - x.visible) there gone (omega (arith, fits.1, gone)) i

pub returns : goal.returns
returns c =
    let i = c.loop-g.invariant in
    record {
      whole = omega (arith, i.whole);
      sums = λ g d less. i.before g d (omega (arith, less, c.loop-g-test.false, c.loop-g.auto.sums)) less;
    }
