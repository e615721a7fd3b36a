-- What is shown is of the desk's text.
use Rattle.std.proofs.Common.{length, sym, ap, subst, ◌∙◌, arith}
use Rattle.unicode_tables.specs.Tables.{TableValues}
use Rattle.cell_grid.specs.Print.{printed_row, row_text, IsSizeOf}
use Rattle.live_document.specs.Documents.{LiveDocument, shown_grid}
use Rattle.live_document.specs.Showing.{rows_from, shown_in}
use Rattle.live_document.proofs.Followed.{live-readable}
use Rattle.live_document.proofs.Spots.{window-size}
use Rattle.live_document.proofs.Printed.{live-seen}
use Rattle.live_document.proofs.document.Document.row_print_size.Goals as goal

pub text_shown-own-requires-clause-readable : goal.text_shown-own-requires-clause-readable
text_shown-own-requires-clause-readable c = let i = c.self.inside in live-readable i.desk i.tables.value i.width i.base i.behind i.buffer i.shown i.held c.self.invariant

pub text_shown-own-requires-clause-row : goal.text_shown-own-requires-clause-row
text_shown-own-requires-clause-row c =
    let s = c.self.inside.shown in
    let size = window-size (rows_from c.self.inside.buffer s.first) s.skip s.count c.self.invariant.at_hand.enough in
    let seen = ap (λ (d : LiveDocument). length d.window.rows) c.self.view_is in
    omega (arith, c.requires, size, seen)

pub returns : goal.returns
returns c =
    let i = c.self.inside in
    let n = c.args.number in
    let is =
    sym (c.text_shown-own.ensures.alike c.deref.result.now)
    ∙ ap (λ (t : TableValues). printed_row (shown_in t i.buffer i.shown) n) c.deref.ensures
    ∙ live-seen (row_text i.tables.value) i.desk i.tables.value i.width i.base i.behind i.buffer i.shown i.held n c.self.invariant
    ∙ ap (λ (d : LiveDocument). printed_row (shown_grid d) n) c.self.view_is in
    subst (λ t. IsSizeOf t c.row_print_size.result) is c.row_print_size.ensures
