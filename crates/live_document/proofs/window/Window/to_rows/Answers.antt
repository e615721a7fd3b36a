-- One row after the other.
use Rattle.std.proofs.Common.{List, map-id, sym, ◌∙◌}
use Rattle.std.proofs.lemmas.Iterator.Consumers.{YieldsList-from_first, YieldsList-end}
use Rattle.cell_grid.specs.Rows.{DrawnRow}
use Rattle.live_document.proofs.window.Window.to_rows.Goals as goal

pub returns : goal.returns
returns c =
    let list = YieldsList-from_first (λ x. x) (λ (left : List DrawnRow). left) c.args.self.now.rows (c.into_iter-row-iterator.ensures.into_iter_gives ∙ c.rows-row-items.ensures) in
    let end = YieldsList-end list c.loop-row.yielded _ c.loop-row.yielded_by _ _ c.in-None.is c.next.ensures.steps in
    c.loop-row.invariant ∙ sym (map-id c.loop-row.yielded) ∙ end.0
