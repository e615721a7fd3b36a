-- A row has as many cells as columns.
use Rattle.std.proofs.Common.{length, sym, ap, ◌∙◌}
use Rattle.cell_grid.specs.Rows.{DrawnRow}
use Rattle.cell_grid.specs.Runs.{runs_entries}
use Rattle.cell_grid.proofs.Celled.{length-cells}
use Rattle.cell_grid.proofs.row.Row.width.Goals as goal

pub returns : goal.returns
returns c =
    let inside = c.self.inside in
    let stand = c.self.invariant.stand in
    sym (length-cells (runs_entries inside.start inside.runs.items) inside.start inside.width stand.follow stand.fits) ∙ ap (λ (r : DrawnRow). length r.cells) c.self.view_is
