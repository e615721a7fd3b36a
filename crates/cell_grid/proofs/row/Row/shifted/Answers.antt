-- A copy, shifted.
use Rattle.std.proofs.Common.{List, sym, ap, subst, ◌∙◌}
use Rattle.cell_grid.specs.declared.cluster_run.ClusterRun.{ClusterRun}
use Rattle.cell_grid.specs.Rows.{shifted}
use Rattle.cell_grid.specs.Runs.{runs_entries, AreKept}
use Rattle.cell_grid.specs.Shifting.{MayShiftRow}
use Rattle.cell_grid.proofs.Celled.{row_by}
use Rattle.cell_grid.proofs.row.Row.shifted.Goals as goal

pub invariant_of-row : goal.invariant_of-row
invariant_of-row c =
    let inside = c.self.inside in
    let items = c.in_ok-from_slice.ensures.items ∙ c.deref.ensures.value in
    subst (AreKept inside.width inside.start inside.count) (sym items) c.self.invariant

pub shift-requires : goal.shift-requires
shift-requires c =
    let inside = c.self.inside in
    let items = c.in_ok-from_slice.ensures.items ∙ c.deref.ensures.value in
    subst (λ (l : List ClusterRun). MayShiftRow c.args.bytes c.args.places (row_by inside.width inside.start inside.first_place inside.last_place inside.para_level (runs_entries inside.start l))) (sym items)
    (subst (MayShiftRow c.args.bytes c.args.places) (sym c.self.view_is) c.requires)

pub returns : goal.returns
returns c =
    let inside = c.self.inside in
    let items = c.in_ok-from_slice.ensures.items ∙ c.deref.ensures.value in
    c.shift.ensures
    ∙ ap (λ (l : List ClusterRun). shifted c.args.bytes c.args.places (row_by inside.width inside.start inside.first_place inside.last_place inside.para_level (runs_entries inside.start l))) items
    ∙ ap (shifted c.args.bytes c.args.places) c.self.view_is
