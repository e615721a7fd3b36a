-- What is shown is of the desk's text.
use Rattle.std.proofs.Common.{length, sym, ap, subst, ◌∙◌, arith}
use Rattle.std.specs.Io.KnownBytes.{Appends}
use Rattle.std.specs.Prelude.{OnOk, OnErr}
use Rattle.bg_types.specs.Sink.{AppendsBeginning}
use Rattle.unicode_tables.specs.Tables.{TableValues}
use Rattle.cell_grid.specs.Print.{printed_row, row_text}
use Rattle.live_document.specs.Documents.{LiveDocument, shown_grid}
use Rattle.live_document.specs.Showing.{rows_from, shown_in}
use Rattle.live_document.proofs.Followed.{live-readable}
use Rattle.live_document.proofs.Spots.{window-size}
use Rattle.live_document.proofs.Printed.{live-seen}
use Rattle.live_document.proofs.document.Document.print_row.Goals as goal

pub text_shown-own-requires-clause-readable : goal.text_shown-own-requires-clause-readable
text_shown-own-requires-clause-readable g c = let i = c.self.inside in live-readable i.desk i.tables.value i.width i.base i.behind i.buffer i.shown i.held c.self.invariant

pub text_shown-own-requires-clause-row : goal.text_shown-own-requires-clause-row
text_shown-own-requires-clause-row g c =
    let s = c.self.inside.shown in
    let size = window-size (rows_from c.self.inside.buffer s.first) s.skip s.count c.self.invariant.at_hand.enough in
    let seen = ap (λ (d : LiveDocument). length d.window.rows) c.self.view_is in
    omega (arith, c.requires.row, size, seen)

pub returns-clause-ok : goal.returns-clause-ok
returns-clause-ok g c =
    let i = c.self.inside in
    let n = c.args.number in
    let is =
    sym (c.text_shown-own.ensures.alike c.deref.result.now)
    ∙ ap (λ (t : TableValues). printed_row (shown_in t i.buffer i.shown) n) c.deref.ensures
    ∙ live-seen (row_text i.tables.value) i.desk i.tables.value i.width i.base i.behind i.buffer i.shown i.held n c.self.invariant
    ∙ ap (λ (d : LiveDocument). printed_row (shown_grid d) n) c.self.view_is in
    subst (λ t. OnOk c.print_row.result (Appends (g.W.Sink.written c.args.sink.now) (g.W.Sink.written c.print_row.new.sink) t)) is c.print_row.ensures.ok

pub returns-clause-err : goal.returns-clause-err
returns-clause-err g c =
    let i = c.self.inside in
    let n = c.args.number in
    let is =
    sym (c.text_shown-own.ensures.alike c.deref.result.now)
    ∙ ap (λ (t : TableValues). printed_row (shown_in t i.buffer i.shown) n) c.deref.ensures
    ∙ live-seen (row_text i.tables.value) i.desk i.tables.value i.width i.base i.behind i.buffer i.shown i.held n c.self.invariant
    ∙ ap (λ (d : LiveDocument). printed_row (shown_grid d) n) c.self.view_is in
    subst (λ t. OnErr c.print_row.result (AppendsBeginning (g.W.Sink.written c.args.sink.now) (g.W.Sink.written c.print_row.new.sink) t)) is c.print_row.ensures.err
