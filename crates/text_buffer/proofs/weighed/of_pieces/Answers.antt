-- Each paragraph adds its own.
use Rattle.std.proofs.Common.{◌+◌, sym, arith}
use Rattle.text_buffer.proofs.Weights.{weight-more, weight-front}
use Rattle.text_buffer.proofs.weighed.of_pieces.Goals as goal

pub overflow_add-weight : goal.overflow_add-weight
overflow_add-weight g c =
    let row = c.args.pieces.now in
    let i = c.loop-piece.piece-index in
    let more = weight-more g.K.Weighed.weight row i c.piece-item.result (omega (arith, c.loop-piece-test.true)) (sym c.piece-item.is) in
    omega (arith, c.loop-piece.invariant, more, c.of_piece-weight.ensures, weight-front g.K.Weighed.weight row (i + 1), c.requires)

pub loop-piece-preserved : goal.loop-piece-preserved
loop-piece-preserved g c =
    let row = c.args.pieces.now in
    let i = c.loop-piece.piece-index in
    let more = weight-more g.K.Weighed.weight row i c.piece-item.result (omega (arith, c.loop-piece-test.true)) (sym c.piece-item.is) in
    omega (arith, c.loop-piece.invariant, more, c.of_piece-weight.ensures)
