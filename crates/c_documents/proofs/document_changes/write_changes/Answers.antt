-- One more change was written.
use Rattle.std.proofs.Common.{◌<◌, ◌+◌, ◌∙◌, length, set, arith}
use Rattle.c_documents.specs.Numbers.{change_numbers}
use Rattle.cell_grid.proofs.Interface.{filled_next}
use Rattle.c_documents.proofs.document_changes.write_changes.Goals as goal

pub loop-number-preserved : goal.loop-number-preserved
loop-number-preserved c =
    let changes = c.args.changes.now in
    let number = c.loop-number.number in
    let within : number < length changes = omega (arith, c.loop-number-test.true, c.loop-number.auto.number-end) in
    let room : length changes < length c.args.out.now + 1 = omega (arith, c.requires) in
    (λ i. set (c.loop-number.invariant i) number (c.change_numbers.ensures i)) ∙ filled_next change_numbers changes c.args.out.now number _ within room
