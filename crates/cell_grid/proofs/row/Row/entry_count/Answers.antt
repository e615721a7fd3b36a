-- It counts the entries of its runs.
use Rattle.std.proofs.Common.{length, sym, ap, ◌∙◌, arith}
use Rattle.cell_grid.specs.Rows.{DrawnRow}
use Rattle.cell_grid.proofs.row.Row.entry_count.Goals as goal

pub returns-clause-count : goal.returns-clause-count
returns-clause-count c = sym c.self.invariant.counted ∙ ap (λ (r : DrawnRow). length r.entries) c.self.view_is

pub returns-clause-most : goal.returns-clause-most
returns-clause-most c =
    let counted = c.self.invariant.counted in
    let most = c.self.invariant.stand.count in
    omega arith
