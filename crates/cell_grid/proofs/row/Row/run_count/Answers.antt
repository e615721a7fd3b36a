-- It counts the runs that its entries make.
use Rattle.std.proofs.Common.{sym, ap, subst, ◌∙◌, arith}
use Rattle.std.specs.List.{All}
use Rattle.cell_grid.specs.Rows.{DrawnRow}
use Rattle.cell_grid.specs.RunCounts.{run_count}
use Rattle.cell_grid.specs.Runs.{runs_entries, IsInReach}
use Rattle.cell_grid.proofs.GoingOn.{count-most}
use Rattle.cell_grid.proofs.row.Row.run_count.Goals as goal

pub run_count-requires : goal.run_count-requires
run_count-requires c = subst (All IsInReach) (sym c.deref.ensures.value) c.self.invariant.reach

pub returns-clause-count : goal.returns-clause-count
returns-clause-count c =
    let inside = c.self.inside in
    c.run_count.ensures inside.start
    ∙ ap (λ runs. run_count (runs_entries inside.start runs)) c.deref.ensures.value
    ∙ ap (λ (r : DrawnRow). run_count r.entries) c.self.view_is

pub returns-clause-most : goal.returns-clause-most
returns-clause-most c =
    let inside = c.self.inside in
    let is = c.run_count.ensures inside.start ∙ ap (λ runs. run_count (runs_entries inside.start runs)) c.deref.ensures.value in
    let few = count-most (runs_entries inside.start inside.runs.items) in
    let counted = c.self.invariant.counted in
    let most = c.self.invariant.stand.count in
    omega arith
