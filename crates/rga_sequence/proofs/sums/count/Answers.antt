-- The goals of `count` that are answered by hand.
use Rattle.std.proofs.Common.{◌+◌, ◌-◌, ◌*◌, refl, ◌∙◌, arith}
use Rattle.rga_sequence.specs.BlockRows.{items_of}
use Rattle.rga_sequence.proofs.Numbers.{length-items}
use Rattle.rga_sequence.proofs.Summed.{seen_among-read, seen_among-within, sums-counted}
use Rattle.rga_sequence.proofs.sums.count.Goals as goal

pub visible_in-requires : goal.visible_in-requires
visible_in-requires c =
    let bs = c.args.blocks.now in
    let g = c.loop-g.g in
    record { few = omega (arith, seen_among-read bs g (32 * g) (32 * g + 32 - 32 * g) refl (omega arith), seen_among-within (items_of bs) g, c.requires.few) }

pub loop-g-preserved : goal.loop-g-preserved
loop-g-preserved c =
    let bs = c.args.blocks.now in
    let g = c.loop-g.g in
    sums-counted c.loop-g.sums (items_of bs) g c.visible_in.result (omega (arith, c.loop-g-test.true, c.loop-g.auto.sums))
    (c.visible_in.ensures ∙ seen_among-read bs g (32 * g) (32 * g + 32 - 32 * g) refl (omega arith)) c.loop-g.invariant

pub returns : goal.returns
returns c = record {
  whole = omega (arith, c.requires.whole, c.loop-g.auto.sums, length-items c.args.blocks.now);
  sums = λ g d less. c.loop-g.invariant g d (omega (arith, less, c.loop-g-test.false, c.loop-g.auto.sums)) less;
}
