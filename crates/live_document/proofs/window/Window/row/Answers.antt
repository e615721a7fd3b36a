-- The row there is that of the window.
use Rattle.std.proofs.Common.{◌+◌, drop, length, sym, ap, ap₂, ◌∙◌, arith}
use Rattle.std.specs.Prelude.{slice_get}
use Rattle.cell_grid.specs.Windows.{DrawnWindow}
use Rattle.live_document.specs.Showing.{rows_from}
use Rattle.live_document.proofs.Cursors.{reading-there}
use Rattle.live_document.proofs.Spots.{row-in_window, window-size}
use Rattle.live_document.proofs.window.Window.row.Goals as goal

pub cursor-cursor-requires : goal.cursor-cursor-requires
cursor-cursor-requires c = c.self.invariant.at_hand.there

pub overflow_add-self-inside : goal.overflow_add-self-inside
overflow_add-self-inside c =
    let s = c.self.inside.shown in
    let hand = c.self.invariant.at_hand in
    let size = window-size (rows_from c.self.inside.buffer.now s.first) s.skip s.count hand.enough in
    let seen = ap (λ (w : DrawnWindow). length w.rows) c.self.view_is in
    omega (arith, c.requires, size, seen, hand.few)

pub go_to_row-row-requires : goal.go_to_row-row-requires
go_to_row-row-requires c =
    let s = c.self.inside.shown in
    let hand = c.self.invariant.at_hand in
    let size = window-size (rows_from c.self.inside.buffer.now s.first) s.skip s.count hand.enough in
    let seen = ap (λ (w : DrawnWindow). length w.rows) c.self.view_is in
    let there = ap length (ap₂ rows_from c.cursor-cursor.ensures.paragraphs c.cursor-cursor.ensures.number) in
    omega (arith, c.requires, size, seen, hand.enough, there)

pub row_under-requires-clause-reading : goal.row_under-requires-clause-reading
row_under-requires-clause-reading c =
    let kept = c.self.inside.buffer.now in
    let s = c.self.inside.shown in
    let b = c.bytes-bytes.ensures in
    let e = c.cursor-cursor.ensures in
    let at = c.go_to_row-row.ensures in
    let size = window-size (rows_from kept s.first) s.skip s.count c.self.invariant.at_hand.enough in
    let seen = ap (λ (w : DrawnWindow). length w.rows) c.self.view_is in
    reading-there kept s c.go_to_row-row.new.cursor c.self.invariant (at.paragraphs ∙ e.paragraphs) c.go_to_row-row.result c.args.number (omega (arith, c.requires, size, seen))
    (at.same ∙ ap (drop (s.skip + c.args.number)) (ap₂ rows_from e.paragraphs e.number)) (omega (arith, b.bytes, b.few)) b.utf8

pub returns : goal.returns
returns c =
    let kept = c.self.inside.buffer.now in
    let s = c.self.inside.shown in
    let e = c.cursor-cursor.ensures in
    let there = c.go_to_row-row.new.cursor in
    let size = window-size (rows_from kept s.first) s.skip s.count c.self.invariant.at_hand.enough in
    let seen = ap (λ (w : DrawnWindow). length w.rows) c.self.view_is in
    sym (ap (λ (w : DrawnWindow). slice_get w.rows c.args.number) c.self.view_is)
    ∙ row-in_window (rows_from there.paragraphs there.number) (rows_from kept s.first) c.go_to_row-row.result s.skip s.count c.args.number
    (c.go_to_row-row.ensures.same ∙ ap (drop (s.skip + c.args.number)) (ap₂ rows_from e.paragraphs e.number)) (omega (arith, c.requires, size, seen))
    ∙ c.row_under.ensures
