-- Each block of which something is kept adds its own.
use Rattle.std.proofs.Common.{◌<◌, length, sym, ap, ◌∙◌, arith}
use Rattle.text_buffer.specs.Pieces.{weight_in}
use Rattle.text_buffer.specs.Blocks.{rows_of}
use Rattle.text_buffer.proofs.Weights.{rows-more, rows-few, weight-none}
use Rattle.text_buffer.proofs.Places.{length-rows, row-at}
use Rattle.text_buffer.proofs.weighed.of_blocks.Goals as goal
use Rattle.text_buffer.proofs.weighed.of_blocks.Goals.{then-block-gt0, else-block-gt0}

pub of_pieces-weight-requires : goal.of_pieces-weight-requires
of_pieces-weight-requires g c =
    let bs = c.args.blocks.now in
    let q = c.loop-block.block-index in
    let within : q < length bs = omega (arith, c.loop-block-test.true) in
    let own = ap (weight_in g.K.Weighed.weight) (row-at bs q c.block-item.result within c.block-item.is ∙ sym c.deref.ensures.value) in
    record { few = omega (arith, own, rows-few g.K.Weighed.weight (rows_of bs) q (omega (arith, within, length-rows bs)), c.requires) }

pub overflow_add-weight : goal.overflow_add-weight
overflow_add-weight g c =
    let bs = c.args.blocks.now in
    let q = c.loop-block.block-index in
    let within : q < length bs = omega (arith, c.loop-block-test.true) in
    let own = ap (weight_in g.K.Weighed.weight) (row-at bs q c.block-item.result within c.block-item.is ∙ sym c.deref.ensures.value) in
    omega (arith, own, rows-few g.K.Weighed.weight (rows_of bs) q (omega (arith, within, length-rows bs)), c.requires, c.loop-block.invariant, c.of_pieces-weight.ensures)

pub loop-block-preserved : goal.loop-block-preserved
loop-block-preserved g c =
    let bs = c.args.blocks.now in
    let q = c.loop-block.block-index in
    let block = c.block-item.result in
    let within : q < length bs = omega (arith, c.loop-block-test.true) in
    let row = row-at bs q block within c.block-item.is in
    let more = rows-more g.K.Weighed.weight (rows_of bs) q (omega (arith, within, length-rows bs)) in
    elim c.if-block-gt0.branch [
      | then-block-gt0 w ↦
          let own = ap (weight_in g.K.Weighed.weight) (row ∙ sym w.deref.ensures.value) in
          omega (arith, w.weight-is, own, more, c.loop-block.invariant, w.of_pieces-weight.ensures)
      | else-block-gt0 w ↦
          let none = weight-none g.K.Weighed.weight block.pieces.items (omega (arith, block.kept_is, w.if-block-gt0.false)) in
          omega (arith, w.weight-is, ap (weight_in g.K.Weighed.weight) row, none, more, c.loop-block.invariant)
    ]
