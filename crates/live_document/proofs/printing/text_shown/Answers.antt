-- The row is the one that is shown with this number.
use Rattle.std.proofs.Common.{◌+◌, drop, length, ap, ap₂, ◌∙◌, arith}
use Rattle.live_document.specs.Showing.{rows_from}
use Rattle.live_document.proofs.Cursors.{reading-there}
use Rattle.live_document.proofs.Printed.{shown-there, sizes-there}
use Rattle.live_document.proofs.printing.text_shown.Goals as goal

pub cursor-cursor-requires : goal.cursor-cursor-requires
cursor-cursor-requires c = c.requires.readable.at_hand.there

pub overflow_add-shown : goal.overflow_add-shown
overflow_add-shown c = omega (arith, c.requires.row, c.requires.readable.at_hand.few)

pub go_to_row-row-requires : goal.go_to_row-row-requires
go_to_row-row-requires c =
    let there = ap length (ap₂ rows_from c.cursor-cursor.ensures.paragraphs c.cursor-cursor.ensures.number) in
    omega (arith, c.requires.row, c.requires.readable.at_hand.enough, there)

pub text_under-requires-clause-reading : goal.text_under-requires-clause-reading
text_under-requires-clause-reading c =
    let s = c.args.shown in
    let b = c.bytes-bytes.ensures in
    let e = c.cursor-cursor.ensures in
    let at = c.go_to_row-row.ensures in
    reading-there c.args.buffer.now s c.go_to_row-row.new.cursor c.requires.readable (at.paragraphs ∙ e.paragraphs) c.go_to_row-row.result c.args.number c.requires.row
    (at.same ∙ ap (drop (s.skip + c.args.number)) (ap₂ rows_from e.paragraphs e.number)) (omega (arith, b.bytes, b.few)) b.utf8

pub returns-clause-alike : goal.returns-clause-alike
returns-clause-alike c = λ tables.
    let s = c.args.shown in
    let e = c.cursor-cursor.ensures in
    let at = c.go_to_row-row.ensures in
    shown-there tables c.args.buffer.now s c.go_to_row-row.new.cursor (at.paragraphs ∙ e.paragraphs) c.go_to_row-row.result c.args.number c.requires.row
    (at.same ∙ ap (drop (s.skip + c.args.number)) (ap₂ rows_from e.paragraphs e.number))
    ∙ c.text_under.ensures.alike tables

pub returns-clause-sizes : goal.returns-clause-sizes
returns-clause-sizes c = λ tables.
    let s = c.args.shown in
    let e = c.cursor-cursor.ensures in
    let at = c.go_to_row-row.ensures in
    sizes-there tables c.args.buffer.now s c.go_to_row-row.new.cursor (at.paragraphs ∙ e.paragraphs) c.go_to_row-row.result c.args.number c.requires.row
    (at.same ∙ ap (drop (s.skip + c.args.number)) (ap₂ rows_from e.paragraphs e.number))
    ∙ c.text_under.ensures.sizes tables
