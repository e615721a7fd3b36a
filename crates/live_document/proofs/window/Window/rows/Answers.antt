-- They are those that are shown.
use Rattle.std.proofs.Common.{take, drop, ap, ap₂, ◌∙◌, arith}
use Rattle.cell_grid.specs.Windows.{DrawnWindow}
use Rattle.live_document.specs.Showing.{rows_from}
use Rattle.live_document.proofs.Cursors.{reading-at}
use Rattle.live_document.proofs.window.Window.rows.Goals as goal

pub cursor-requires : goal.cursor-requires
cursor-requires c = c.self.invariant.at_hand.there

pub invariant_of-result : goal.invariant_of-result
invariant_of-result c =
    let b = c.bytes-bytes.ensures in
    reading-at c.self.inside.buffer.now c.self.inside.shown c.cursor.result c.self.invariant c.cursor.ensures.paragraphs c.cursor.ensures.number (omega (arith, b.bytes, b.few)) b.utf8

pub returns : goal.returns
returns c =
    let s = c.self.inside.shown in
    ap (λ rows. take s.count (drop s.skip rows)) (ap₂ rows_from c.cursor.ensures.paragraphs c.cursor.ensures.number) ∙ ap (λ (w : DrawnWindow). w.rows) c.self.view_is
