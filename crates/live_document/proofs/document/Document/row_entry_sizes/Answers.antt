-- What is shown is of the desk's text.
use Rattle.std.proofs.Common.{◌≡◌, ◌++◌, ℕ, List, drop, length, sym, ap, subst, ◌∙◌, arith}
use Rattle.std.proofs.lemmas.List.{length-map}
use Rattle.unicode_tables.specs.Tables.{TableValues}
use Rattle.cell_grid.specs.declared.entry.Entry.{Entry}
use Rattle.cell_grid.specs.Print.{own_sizes, own_text, printed_sizes}
use Rattle.live_document.specs.Documents.{LiveDocument, shown_grid}
use Rattle.live_document.specs.Showing.{rows_from, shown_in}
use Rattle.live_document.proofs.Followed.{live-readable}
use Rattle.live_document.proofs.Spots.{window-size}
use Rattle.live_document.proofs.Printed.{live-seen}
use Rattle.live_document.proofs.document.Document.row_entry_sizes.Goals as goal

pub text_shown-own-requires-clause-readable : goal.text_shown-own-requires-clause-readable
text_shown-own-requires-clause-readable c = let i = c.self.inside in live-readable i.desk i.tables.value i.width i.base i.behind i.buffer i.shown i.held c.self.invariant

pub text_shown-own-requires-clause-row : goal.text_shown-own-requires-clause-row
text_shown-own-requires-clause-row c =
    let s = c.self.inside.shown in
    let size = window-size (rows_from c.self.inside.buffer s.first) s.skip s.count c.self.invariant.at_hand.enough in
    let seen = ap (λ (d : LiveDocument). length d.window.rows) c.self.view_is in
    omega (arith, c.requires.row, size, seen)

pub row_entry_sizes-requires-clause-room : goal.row_entry_sizes-requires-clause-room
row_entry_sizes-requires-clause-room c =
    let i = c.self.inside in
    let n = c.args.number in
    let T = c.deref.result.now in
    let own = c.text_shown-own.result in
    let is =
    sym (c.text_shown-own.ensures.sizes T)
    ∙ ap (λ (t : TableValues). printed_sizes (shown_in t i.buffer i.shown) n) c.deref.ensures
    ∙ live-seen (own_sizes i.tables.value) i.desk i.tables.value i.width i.base i.behind i.buffer i.shown i.held n c.self.invariant
    ∙ ap (λ (d : LiveDocument). printed_sizes (shown_grid d) n) c.self.view_is in
    omega (arith, c.requires.room, ap length is, length-map own.row.now.entries (λ (e : Entry). length (own_text T own.text.now e)))

pub returns : goal.returns
returns c =
    let i = c.self.inside in
    let n = c.args.number in
    let T = c.deref.result.now in
    let own = c.text_shown-own.result in
    let is =
    sym (c.text_shown-own.ensures.sizes T)
    ∙ ap (λ (t : TableValues). printed_sizes (shown_in t i.buffer i.shown) n) c.deref.ensures
    ∙ live-seen (own_sizes i.tables.value) i.desk i.tables.value i.width i.base i.behind i.buffer i.shown i.held n c.self.invariant
    ∙ ap (λ (d : LiveDocument). printed_sizes (shown_grid d) n) c.self.view_is in
    let count : length own.row.now.entries ≡ length (own_sizes T own.text.now own.row.now) = sym (length-map own.row.now.entries (λ (e : Entry). length (own_text T own.text.now e))) in
    let told = subst (λ m. c.row_entry_sizes.new.sizes ≡ own_sizes T own.text.now own.row.now ++ drop m c.args.sizes.now) count c.row_entry_sizes.ensures in
    subst (λ (ns : List ℕ). c.row_entry_sizes.new.sizes ≡ ns ++ drop (length ns) c.args.sizes.now) is told
