-- The goals of `count_visible` that are answered by hand.
use Rattle.std.proofs.Common.{take, length, refl, arith}
use Rattle.std.proofs.lemmas.List.{length-take-le}
use Rattle.std.proofs.lemmas.Option.{slice_get_read}
use Rattle.rga_tree.proofs.Interface.{weight_le}
use Rattle.rga_sequence.proofs.Grown.{seen_le}
use Rattle.rga_sequence.proofs.Seen.{seen-more}
use Rattle.rga_sequence.proofs.block.count_visible.Goals as goal

pub overflow_add-visible : goal.overflow_add-visible
overflow_add-visible c =
    let row = c.args.row.now in
    let i = c.loop-e.e-index in
    omega (arith, c.loop-e.invariant, seen_le (take i row), length-take-le i row (omega (arith, c.loop-e-test.true)), c.loop-e-test.true, c.weight-visible.ensures, weight_le c.e-item.result.hidden)

pub loop-e-preserved : goal.loop-e-preserved
loop-e-preserved c =
    let row = c.args.row.now in
    let more = seen-more row c.loop-e.e-index c.e-item.result (slice_get_read row (length row) c.loop-e.e-index c.e-item.result refl c.loop-e-test.true c.e-item.is) in
    omega (arith, more, c.loop-e.invariant, c.weight-visible.ensures)
