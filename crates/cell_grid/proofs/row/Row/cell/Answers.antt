-- A cell for each column: what is seen there.
use Rattle.std.proofs.Common.{◌<◌, List, length, slice_get, ap, subst, ◌∙◌, arith}
use Rattle.cell_grid.specs.declared.cluster_run.ClusterRun.{ClusterRun}
use Rattle.cell_grid.specs.Cells.{IsSeenAt}
use Rattle.cell_grid.specs.Rows.{DrawnRow}
use Rattle.cell_grid.specs.Runs.{runs_columns, runs_entries}
use Rattle.cell_grid.proofs.Celled.{length-cells, none-behind, seen-is}
use Rattle.cell_grid.proofs.RunEntries.{total-runs}
use Rattle.cell_grid.proofs.row.Row.cell.Goals as goal

pub cell_in-requires : goal.cell_in-requires
cell_in-requires c =
    let inside = c.self.inside in
    let runs = c.deref.ensures.value in
    let all = ap runs_columns runs in
    let many = ap (λ (l : List ClusterRun). length (runs_entries inside.start l)) runs in
    let wide = total-runs inside.start inside.runs.items in
    let fits = c.self.invariant.stand.fits in
    let few = c.self.invariant.stand.count in
    let widest = c.self.invariant.wide in
    record { fits = omega arith; few = omega arith }

pub returns-then-column-width : goal.returns-then-column-width
returns-then-column-width c =
    let inside = c.self.inside in
    let es = runs_entries inside.start inside.runs.items in
    let stand = c.self.invariant.stand in
    let len = length-cells es inside.start inside.width stand.follow stand.fits in
    let same = ap (λ (r : DrawnRow). length r.cells) c.self.view_is in
    let lt : c.args.column < inside.width = omega arith in
    let at = subst (λ (l : List ClusterRun). IsSeenAt (runs_entries inside.start l) c.args.column c.cell_in.result) c.deref.ensures.value c.cell_in.ensures in
    seen-is es inside.start inside.width stand.follow stand.fits c.args.column c.cell_in.result lt at
    ∙ ap (λ (r : DrawnRow). slice_get r.cells c.args.column) c.self.view_is

pub returns-else-column-width : goal.returns-else-column-width
returns-else-column-width c = none-behind c.args.self.now.cells c.args.column (omega arith)
