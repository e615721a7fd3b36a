-- Those of the row that is kept, moved with it.
use Rattle.std.proofs.Common.{map, sym, ap, subst, ◌∙◌}
use Rattle.std.specs.List.{All}
use Rattle.cell_grid.specs.declared.entry.Entry.{Entry}
use Rattle.cell_grid.specs.Rows.{DrawnRow, shifted_entry}
use Rattle.cell_grid.specs.Shifting.{MayShift}
use Rattle.live_document.proofs.window.WindowRow.entries.Goals as goal

pub invariant_of-result : goal.invariant_of-result
invariant_of-result c =
    let inside = c.self.inside in
    subst (All (λ (e : Entry). MayShift inside.bytes inside.places e.span)) (sym c.entries.ensures) c.self.invariant.entries

pub returns : goal.returns
returns c =
    let inside = c.self.inside in
    ap (map (shifted_entry inside.bytes inside.places)) c.entries.ensures ∙ ap (λ (r : DrawnRow). r.entries) c.self.view_is
