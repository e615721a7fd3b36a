-- As many rows as are left there.
use Rattle.std.proofs.Common.{length, drop, sym, ap, ◌∙◌, arith}
use Rattle.std.proofs.lemmas.List.{length-take-le, length-drop}
use Rattle.cell_grid.specs.Windows.{DrawnWindow}
use Rattle.live_document.specs.Showing.{rows_from}
use Rattle.live_document.proofs.window.Window.len.Goals as goal

pub returns : goal.returns
returns c =
    let inside = c.self.inside in
    let rows = rows_from inside.buffer.now inside.shown.first in
    let enough = c.self.invariant.at_hand.enough in
    let left = length-drop inside.shown.skip rows in
    sym (length-take-le inside.shown.count (drop inside.shown.skip rows) (omega arith)) ∙ ap (λ (w : DrawnWindow). length w.rows) c.self.view_is
