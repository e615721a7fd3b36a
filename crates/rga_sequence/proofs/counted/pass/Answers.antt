-- One sum more is that of the next neighbours.
use Rattle.std.proofs.Common.{◌≡◌, ◌+◌, ◌*◌, take, ap, ◌∙◌, arith}
use Rattle.rga_sequence.specs.BlockRows.{items_of}
use Rattle.rga_sequence.specs.Blocks.{seen_all}
use Rattle.rga_sequence.specs.Sums.{seen_among}
use Rattle.rga_sequence.proofs.Nth.{seen_all-add}
use Rattle.rga_sequence.proofs.counted.pass.Goals as goal

pub loop-passed-preserved : goal.loop-passed-preserved
loop-passed-preserved c =
    let xs = items_of c.args.blocks.now in
    let g = c.loop-passed.passed in
    let i = c.loop-passed.invariant in
    let t : 32 * (g + 1) ≡ 32 * g + 32 = omega arith in
    let more : seen_all (take (32 * (g + 1)) xs) ≡ seen_all (take (32 * g) xs) + seen_among xs g = ap (λ k. seen_all (take k xs)) t ∙ seen_all-add xs (32 * g) 32 in
    record {
      there = omega (arith, c.loop-passed-test.true);
      before = omega (arith, more, c.requires.sums.sums g 0 (omega (arith, c.loop-passed-test.true)), i.before, c.if-sums-passed.true);
    }
