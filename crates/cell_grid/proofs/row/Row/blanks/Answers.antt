-- Blanks stand before the entries' cells and after them.
use Rattle.std.proofs.Common.{◌≡◌, ◌+◌, ◌-◌, ◌++◌, length, replicate, sym, ap, ◌∙◌, arith}
use Rattle.cell_grid.specs.declared.cell.Cell.TheVariants.{Blank}
use Rattle.cell_grid.specs.Cells.{entries_cells}
use Rattle.cell_grid.specs.Rows.{DrawnRow}
use Rattle.cell_grid.specs.Runs.{runs_columns, runs_entries}
use Rattle.cell_grid.proofs.RunEntries.{total-runs}
use Rattle.cell_grid.proofs.Sides.{length-entries_cells}
use Rattle.cell_grid.proofs.row.Row.blanks.Goals as goal

pub end_column-end-requires : goal.end_column-end-requires
end_column-end-requires c =
    let inside = c.self.inside in
    let all = ap runs_columns c.deref.ensures.value in
    let wide = total-runs inside.start inside.runs.items in
    let fits = c.self.invariant.stand.fits in
    omega arith

pub overflow_sub-result : goal.overflow_sub-result
overflow_sub-result c =
    let inside = c.self.inside in
    let all = ap runs_columns c.deref.ensures.value in
    let wide = total-runs inside.start inside.runs.items in
    let fits = c.self.invariant.stand.fits in
    omega arith

pub returns : goal.returns
returns c =
    let inside = c.self.inside in
    let es = runs_entries inside.start inside.runs.items in
    let all = ap runs_columns c.deref.ensures.value in
    let wide = total-runs inside.start inside.runs.items in
    let n = length-entries_cells 0 es in
    let end : inside.start + length (entries_cells 0 es) ≡ c.end_column-end.result = omega arith in
    sym (ap (λ (r : DrawnRow). r.cells) c.self.view_is)
    ∙ ap (λ k. replicate inside.start Blank ++ (entries_cells 0 es ++ replicate (inside.width - k) Blank)) end
    ∙ ap (λ (r : DrawnRow). replicate inside.start Blank ++ (entries_cells 0 r.entries ++ replicate (inside.width - c.end_column-end.result) Blank)) c.self.view_is
