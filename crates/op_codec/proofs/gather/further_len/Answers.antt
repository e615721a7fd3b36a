-- The goals of `further_len` that are answered by hand.
use Rattle.std.proofs.Common.{◌<◌, ◌∙◌, sym, arith}
use Rattle.op_codec.proofs.Gathers.{gathered_one}
use Rattle.op_codec.proofs.gather.further_len.Goals as goal

pub loop-count-preserved : goal.loop-count-preserved
loop-count-preserved c =
    let l = c.loop-count in
    let room : l.count < 1023 = omega (arith, l.invariant.insertions, l.invariant.is_frame.few, c.if-count-eq-MOST_FURTHER.false) in
    gathered_one c.args.first.now c.args.ops.now l.count l.tip c.index-ops-count.result c.inserted-tip-in-loop-count.result l.invariant c.loop-count-test.true c.index-ops-count.is room
    (sym c.joins.ensures ∙ c.if-not-joins.false) c.inserted-tip-in-loop-count.ensures.well_formed c.inserted-tip-in-loop-count.ensures.id
