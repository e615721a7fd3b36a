-- The goals of `pass_blocks` that are answered by hand.
use Rattle.std.proofs.Common.{◌≡◌, ◌+◌, ◌-◌, ap, ◌∙◌, arith}
use Rattle.rga_runs.specs.BlockRows.{items_of}
use Rattle.rga_runs.specs.Sums.{visible_from}
use Rattle.rga_runs.proofs.Summed.{visible-add, visible-read, visible_from-within}
use Rattle.rga_runs.proofs.counts.pass_blocks.Goals as goal

pub visible_in_blocks-here-requires : goal.visible_in_blocks-here-requires
visible_in_blocks-here-requires c =
    let bs = c.args.blocks.now in
    let p = c.loop-passed.passed in
    let n = p + 8 - p in
    record { few = omega (arith, visible-read bs p n, visible_from-within (items_of bs) p n, c.requires.few) }

pub loop-passed-preserved : goal.loop-passed-preserved
loop-passed-preserved c =
    let bs = c.args.blocks.now in
    let xs = items_of bs in
    let p = c.loop-passed.passed in
    let n : p + 8 - p ≡ 8 = omega arith in
    let read : c.visible_in_blocks-here.result ≡ visible_from xs p 8 = c.visible_in_blocks-here.ensures ∙ visible-read bs p (p + 8 - p) ∙ ap (visible_from xs p) n in
    record {
      there = omega (arith, c.loop-passed.invariant.there, c.loop-passed-test.true);
      before = omega (arith, visible-add xs p 8, read, c.loop-passed.invariant.before, c.if-left-here.false);
    }
