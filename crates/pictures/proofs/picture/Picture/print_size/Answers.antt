-- One row more.
use Rattle.std.proofs.Common.{◌<◌, ◌+◌, List, length, ap, arith}
use Rattle.cell_grid.specs.Rows.{DrawnRow}
use Rattle.cell_grid.specs.Print.{printed, row_text}
use Rattle.cell_grid.proofs.Interface.{too-long}
use Rattle.pictures.proofs.Prints.{sized_next, sized_within}
use Rattle.pictures.proofs.picture.Picture.print_size.Goals as goal

pub row_print_size-requires : goal.row_print_size-requires
row_print_size-requires c =
    let rows = ap (λ (l : List DrawnRow). length l) c.rows-number-end.ensures.rows in
    omega (arith, c.loop-number-test.true, c.loop-number.auto.number-end, rows)

pub loop-number-preserved : goal.loop-number-preserved
loop-number-preserved c =
    let grid = c.args.self.now in
    let number = c.loop-number.number in
    let rows = ap (λ (l : List DrawnRow). length l) c.rows-number-end.ensures.rows in
    let there : number < length grid.rows = omega (arith, c.loop-number-test.true, c.loop-number.auto.number-end, rows) in
    let sum = rw c.in_ok-size.ensures.ok_part at c.checked_add.ensures in
    omega (arith, sum.1, c.in_ok-row.ensures, c.loop-number.invariant, sized_next (row_text grid.tables grid.text) grid.rows number there)

pub returns-in_err-row : goal.returns-in_err-row
returns-in_err-row c =
    let grid = c.args.self.now in
    let number = c.loop-number.number in
    let rows = ap (λ (l : List DrawnRow). length l) c.rows-number-end.ensures.rows in
    let there : number < length grid.rows = omega (arith, c.loop-number-test.true, c.loop-number.auto.number-end, rows) in
    let f = row_text grid.tables grid.text in
    too-long (printed grid) c.from_residual.result c.from_residual.ensures.0
    (omega (arith, c.in_err-row.ensures, sized_next f grid.rows number there, sized_within f grid.rows (number + 1)))

pub returns-in_err-size : goal.returns-in_err-size
returns-in_err-size c =
    let grid = c.args.self.now in
    let number = c.loop-number.number in
    let rows = ap (λ (l : List DrawnRow). length l) c.rows-number-end.ensures.rows in
    let there : number < length grid.rows = omega (arith, c.loop-number-test.true, c.loop-number.auto.number-end, rows) in
    let f = row_text grid.tables grid.text in
    let sum = rw c.in_err-size.ensures.ok_part at c.checked_add.ensures in
    too-long (printed grid) c.from_residual-in_err-size.result c.from_residual-in_err-size.ensures.0
    (omega (arith, sum, c.in_ok-row.ensures, c.loop-number.invariant, sized_next f grid.rows number there, sized_within f grid.rows (number + 1)))
