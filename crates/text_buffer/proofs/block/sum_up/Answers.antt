-- Each paragraph is counted, and none has more code points than bytes.
use Rattle.std.proofs.Common.{◌+◌, length, take, sym, ap, arith}
use Rattle.std.proofs.lemmas.List.{length-take-le}
use Rattle.std.specs.List.{concat}
use Rattle.text_buffer.specs.Pieces.{points_in}
use Rattle.text_buffer.proofs.Sums.{bytes-more, places-more, kept-more, kept-few, bytes-parts, places-few}
use Rattle.text_buffer.proofs.block.sum_up.Goals as goal

pub overflow_add-bytes : goal.overflow_add-bytes
overflow_add-bytes g c =
    let row = c.args.pieces.now in
    let i = c.loop-piece.piece-index in
    let more = bytes-more row i c.piece-item.result (omega (arith, c.loop-piece-test.true)) (sym c.piece-item.is) in
    omega (arith, c.loop-piece.invariant.bytes, more, bytes-parts row (i + 1), c.requires, ap length c.as_str.ensures.value)

pub overflow_add-places : goal.overflow_add-places
overflow_add-places g c =
    let row = c.args.pieces.now in
    let i = c.loop-piece.piece-index in
    let more = places-more row i c.piece-item.result (omega (arith, c.loop-piece-test.true)) (sym c.piece-item.is) in
    omega (arith, c.loop-piece.invariant.places, more, places-few (concat (points_in (take (i + 1) row))), bytes-parts row (i + 1), c.requires)

pub overflow_add-kept : goal.overflow_add-kept
overflow_add-kept g c =
    let row = c.args.pieces.now in
    let i = c.loop-piece.piece-index in
    let more = kept-more row i c.piece-item.result (omega (arith, c.loop-piece-test.true)) (sym c.piece-item.is) in
    omega (arith, c.loop-piece.invariant.kept, c.kept_count-kept.ensures, more, kept-few (take (i + 1) row), length-take-le (i + 1) row (omega (arith, c.loop-piece-test.true)))

pub loop-piece-preserved : goal.loop-piece-preserved
loop-piece-preserved g c =
    let row = c.args.pieces.now in
    let i = c.loop-piece.piece-index in
    let bytes = bytes-more row i c.piece-item.result (omega (arith, c.loop-piece-test.true)) (sym c.piece-item.is) in
    let places = places-more row i c.piece-item.result (omega (arith, c.loop-piece-test.true)) (sym c.piece-item.is) in
    record {
      bytes = omega (arith, c.loop-piece.invariant.bytes, bytes, ap length c.as_str.ensures.value);
      places = omega (arith, c.loop-piece.invariant.places, places);
      kept = omega (arith, c.loop-piece.invariant.kept, kept-more row i c.piece-item.result (omega (arith, c.loop-piece-test.true)) (sym c.piece-item.is), c.kept_count-kept.ensures);
    }
