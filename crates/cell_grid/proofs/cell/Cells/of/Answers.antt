-- All of them are left.
use Rattle.std.proofs.Common.{length, sym, ap, ◌∙◌, arith}
use Rattle.cell_grid.specs.Coming.{cells_left}
use Rattle.cell_grid.proofs.cell.Cells.of.Goals as goal

pub invariant_of-result : goal.invariant_of-result
invariant_of-result c =
    let same = ap length c.entries.ensures in
    let count = c.entry_count-count.ensures.count in
    let most = c.entry_count-count.ensures.most in
    record { behind = λ some. absurd (omega (arith, some)); few = omega arith }

pub returns : goal.returns
returns c =
    ap (λ es. cells_left c.blanks-left.result.0 0 0 es c.blanks-left.result.1) c.entries.ensures ∙ sym c.blanks-left.ensures
