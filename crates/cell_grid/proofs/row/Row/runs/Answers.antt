-- The runs have the entries.
use Rattle.std.proofs.Common.{ap, subst, sym, ◌∙◌, arith}
use Rattle.std.specs.List.{All}
use Rattle.cell_grid.specs.Rows.{DrawnRow}
use Rattle.cell_grid.specs.Runs.{runs_columns, runs_entries, IsInReach}
use Rattle.cell_grid.proofs.RunEntries.{total-runs}
use Rattle.cell_grid.proofs.row.Row.runs.Goals as goal

pub returns-clause-entries : goal.returns-clause-entries
returns-clause-entries c = (c.self.inside.start, ap (runs_entries c.self.inside.start) c.deref.ensures.value ∙ ap (λ (r : DrawnRow). r.entries) c.self.view_is)

pub returns-clause-columns : goal.returns-clause-columns
returns-clause-columns c =
    let inside = c.self.inside in
    let all = ap runs_columns c.deref.ensures.value in
    let wide = total-runs inside.start inside.runs.items in
    let fits = c.self.invariant.stand.fits in
    let widest = c.self.invariant.wide in
    omega arith

pub returns-clause-reach : goal.returns-clause-reach
returns-clause-reach c = subst (All IsInReach) (sym c.deref.ensures.value) c.self.invariant.reach
