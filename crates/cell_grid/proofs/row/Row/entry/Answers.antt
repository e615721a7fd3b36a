-- That of its runs.
use Rattle.std.proofs.Common.{List, slice_get, ap, subst, sym, ◌∙◌, arith}
use Rattle.std.specs.List.{All}
use Rattle.cell_grid.specs.declared.cluster_run.ClusterRun.{ClusterRun}
use Rattle.cell_grid.specs.Rows.{DrawnRow}
use Rattle.cell_grid.specs.Runs.{runs_columns, runs_entries, IsInReach}
use Rattle.cell_grid.proofs.RunEntries.{total-runs}
use Rattle.cell_grid.proofs.row.Row.entry.Goals as goal

pub entry_in-requires : goal.entry_in-requires
entry_in-requires c =
    let inside = c.self.inside in
    let all = ap runs_columns c.deref.ensures.value in
    let wide = total-runs inside.start inside.runs.items in
    let fits = c.self.invariant.stand.fits in
    let widest = c.self.invariant.wide in
    record { reach = subst (All IsInReach) (sym c.deref.ensures.value) c.self.invariant.reach; fits = omega arith }

pub returns : goal.returns
returns c =
    c.entry_in.ensures
    ∙ ap (λ (l : List ClusterRun). slice_get (runs_entries c.self.inside.start l) c.args.number) c.deref.ensures.value
    ∙ ap (λ (r : DrawnRow). slice_get r.entries c.args.number) c.self.view_is
