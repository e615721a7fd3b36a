-- The goals of `pass` that are answered by hand. One sum more is that of the next neighbours.
use Rattle.std.proofs.Common.{◌≡◌, ◌+◌, ◌*◌, take, ap, ◌∙◌, arith}
use Rattle.rga_runs.specs.BlockRows.{items_of}
use Rattle.rga_runs.specs.Stretches.{visible_in}
use Rattle.rga_runs.specs.Blocks.{row_of}
use Rattle.rga_runs.specs.Sums.{visible_from}
use Rattle.rga_runs.proofs.Summed.{visible-add, sums-front, sums-within}
use Rattle.rga_runs.proofs.counts.pass.Goals as goal

pub pass_together-from-requires : goal.pass_together-from-requires
pass_together-from-requires c = omega (arith, sums-within c.args.sums.now (items_of c.args.blocks.now) c.requires.sums, c.requires.few)

pub loop-passed-init : goal.loop-passed-init
loop-passed-init c =
    let front = sums-front c.args.sums.now (items_of c.args.blocks.now) c.pass_together-from.result.0 c.requires.sums c.pass_together-from.ensures.there in
    record {
      there = c.pass_together-from.ensures.there;
      before = omega (arith, front, c.pass_together-from.ensures.before);
    }

pub loop-passed-preserved : goal.loop-passed-preserved
loop-passed-preserved c =
    let xs = items_of c.args.blocks.now in
    let g = c.loop-passed.passed in
    let i = c.loop-passed.invariant in
    let t : 32 * (g + 1) ≡ 32 * g + 32 = omega arith in
    let more : visible_in (row_of (take (32 * (g + 1)) xs)) ≡ visible_in (row_of (take (32 * g) xs)) + visible_from xs (32 * g) 32 = ap (λ k. visible_in (row_of (take k xs))) t ∙ visible-add xs (32 * g) 32 in
    record {
      there = omega (arith, c.loop-passed-test.true);
      before = omega (arith, more, c.requires.sums.sums g 0 (omega (arith, c.loop-passed-test.true)), i.before, c.if-sums-passed.true);
    }
