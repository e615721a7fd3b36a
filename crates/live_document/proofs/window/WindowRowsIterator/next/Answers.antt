-- The row that is next, and those that are left then.
use Rattle.std.proofs.Common.{take, sym, ap, ◌∙◌, arith}
use Rattle.live_document.specs.Showing.{rows_from}
use Rattle.live_document.proofs.Spots.{take-first}
use Rattle.live_document.proofs.Cursors.{reading-on, reading-past}
use Rattle.live_document.proofs.window.WindowRowsIterator.next.Goals as goal

pub go_to_row-number-requires : goal.go_to_row-number-requires
go_to_row-number-requires c = let enough = c.self.invariant.enough in omega arith

pub row_under-row-requires-clause-reading : goal.row_under-row-requires-clause-reading
row_under-row-requires-clause-reading c =
    let inside = c.self.inside in
    let e = c.go_to_row-number.ensures in
    (inside.left, reading-on inside.cursor c.go_to_row-number.new.cursor inside.row c.go_to_row-number.result inside.left c.self.invariant e.paragraphs e.same (omega arith))

pub invariant_of-self : goal.invariant_of-self
invariant_of-self c =
    let inside = c.self.inside in
    let e = c.go_to_row-number.ensures in
    reading-past c.go_to_row-number.new.cursor c.go_to_row-number.result inside.left
    (reading-on inside.cursor c.go_to_row-number.new.cursor inside.row c.go_to_row-number.result inside.left c.self.invariant e.paragraphs e.same (omega arith)) (omega arith)

pub returns-clause-steps : goal.returns-clause-steps
returns-clause-steps c =
    let inside = c.self.inside in
    let at = c.go_to_row-number.new.cursor in
    sym c.self.view_is ∙ ap (take inside.left) (sym c.go_to_row-number.ensures.same)
    ∙ take-first (rows_from at.paragraphs at.number) c.go_to_row-number.result inside.left c.row_under-row.result c.row_under-row.ensures (omega arith)
