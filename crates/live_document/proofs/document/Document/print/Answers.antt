-- One row after the other.
use Rattle.std.proofs.Common.{◌≡◌, ◌<◌, ◌+◌, length, drop, get_or, flat_map, refl, sym, ap, ap₂, subst, ◌∙◌, arith}
use Rattle.std.proofs.KnownBytes.{Appends-nil}
use Rattle.std.specs.Io.KnownBytes.{Appends}
use Rattle.std.specs.Prelude.{encode_utf8_all}
use Rattle.bg_types.specs.Sink.{AppendsBeginning}
use Rattle.unicode_tables.specs.Tables.{TableValues}
use Rattle.rga_tree.specs.TextOf.{text}
use Rattle.cell_grid.specs.Print.{printed_row, row_text}
use Rattle.cell_grid.proofs.Interface.{on_err, pieces-on, pieces-cut_last, take-whole}
use Rattle.live_document.specs.Documents.{LiveDocument, shown_grid}
use Rattle.live_document.specs.Showing.{rows_from, shown_in}
use Rattle.live_document.proofs.Cursors.{inside-there, reading-there}
use Rattle.live_document.proofs.Followed.{live-readable}
use Rattle.live_document.proofs.Printed.{a_row, live-seen, row-piece, shown-there}
use Rattle.live_document.proofs.Spots.{further-same, window-size}
use Rattle.live_document.proofs.document.Document.print.Goals as goal

pub cursor-cursor-requires : goal.cursor-cursor-requires
cursor-cursor-requires g c = c.self.invariant.at_hand.there

pub go_to_row-number-requires : goal.go_to_row-number-requires
go_to_row-number-requires g c =
    let i = c.self.inside in
    let s = i.shown in
    let h = c.loop.invariant in
    let p = c.cursor-cursor.ensures in
    let readable = live-readable i.desk i.tables.value i.width i.base i.behind i.buffer s i.held c.self.invariant in
    inside-there i.buffer s c.loop.cursor readable (h.paragraphs ∙ p.paragraphs) c.loop.row c.loop.counter c.loop-test.true
    (h.same ∙ ap (drop (s.skip + c.loop.counter)) (ap₂ rows_from p.paragraphs p.number))

pub text_under-own-requires-clause-reading : goal.text_under-own-requires-clause-reading
text_under-own-requires-clause-reading g c =
    let i = c.self.inside in
    let s = i.shown in
    let h = c.loop.invariant in
    let e = c.go_to_row-number.ensures in
    let p = c.cursor-cursor.ensures in
    let b = c.bytes-bytes.ensures in
    let readable = live-readable i.desk i.tables.value i.width i.base i.behind i.buffer s i.held c.self.invariant in
    reading-there i.buffer s c.go_to_row-number.new.cursor readable (e.paragraphs ∙ h.paragraphs ∙ p.paragraphs) c.go_to_row-number.result c.loop.counter c.loop-test.true
    (e.same ∙ h.same ∙ ap (drop (s.skip + c.loop.counter)) (ap₂ rows_from p.paragraphs p.number)) (omega (arith, b.bytes, b.few)) b.utf8

pub loop-init : goal.loop-init
loop-init g c =
    let s = c.self.inside.shown in
    let first : s.skip ≡ s.skip + 0 = omega arith in
    record {
      working = c.requires.working;
      paragraphs = refl;
      same = ap (λ m. drop m (rows_from c.cursor-cursor.result.paragraphs c.cursor-cursor.result.number)) first;
      so_far = Appends-nil (g.W.Sink.written c.args.sink.now);
    }

pub returns-in_err-print_row-clause-err : goal.returns-in_err-print_row-clause-err
returns-in_err-print_row-clause-err g c =
    let i = c.self.inside in
    let s = i.shown in
    let d = c.args.self.now in
    let n = c.loop.counter in
    let h = c.loop.invariant in
    let e = c.go_to_row-number.ensures in
    let p = c.cursor-cursor.ensures in
    let own = c.text_under-own.result in
    let T = c.deref.result.now in
    let same = e.same ∙ h.same ∙ ap (drop (s.skip + n)) (ap₂ rows_from p.paragraphs p.number) in
    let size = window-size (rows_from i.buffer s.first) s.skip s.count c.self.invariant.at_hand.enough in
    let seen = ap (λ (d : LiveDocument). length d.window.rows) c.self.view_is in
    let within : n < length d.window.rows = omega (arith, c.loop-test.true, size, seen) in
    let is = row-piece (shown_grid d) n (row_text T own.text.now own.row.now) within
    (sym (ap (λ (t : TableValues). printed_row (shown_in t i.buffer s) n) c.deref.ensures
    ∙ live-seen (row_text i.tables.value) i.desk i.tables.value i.width i.base i.behind i.buffer s i.held n c.self.invariant
    ∙ ap (λ (d : LiveDocument). printed_row (shown_grid d) n) c.self.view_is)
    ∙ shown-there T i.buffer s c.go_to_row-number.new.cursor (e.paragraphs ∙ h.paragraphs ∙ p.paragraphs) c.go_to_row-number.result n c.loop-test.true same
    ∙ c.text_under-own.ensures.alike T) in
    let old = g.W.Sink.written c.args.sink.now in
    let mid = g.W.Sink.written c.loop.sink in
    let new = g.W.Sink.written c.print_row.new.sink in
    on_err c.from_residual.result
    (pieces-cut_last (row_text d.tables (encode_utf8_all (text d.desk.set))) d.window.rows n (get_or d.window.rows n a_row) a_row within refl old mid new h.so_far
    (subst (AppendsBeginning mid new) (sym is) c.in_err-print_row.ensures.err))

pub loop-preserved : goal.loop-preserved
loop-preserved g c =
    let i = c.self.inside in
    let s = i.shown in
    let d = c.args.self.now in
    let n = c.loop.counter in
    let h = c.loop.invariant in
    let e = c.go_to_row-number.ensures in
    let p = c.cursor-cursor.ensures in
    let own = c.text_under-own.result in
    let T = c.deref.result.now in
    let same = e.same ∙ h.same ∙ ap (drop (s.skip + n)) (ap₂ rows_from p.paragraphs p.number) in
    let size = window-size (rows_from i.buffer s.first) s.skip s.count c.self.invariant.at_hand.enough in
    let seen = ap (λ (d : LiveDocument). length d.window.rows) c.self.view_is in
    let within : n < length d.window.rows = omega (arith, c.loop-test.true, size, seen) in
    let is = row-piece (shown_grid d) n (row_text T own.text.now own.row.now) within
    (sym (ap (λ (t : TableValues). printed_row (shown_in t i.buffer s) n) c.deref.ensures
    ∙ live-seen (row_text i.tables.value) i.desk i.tables.value i.width i.base i.behind i.buffer s i.held n c.self.invariant
    ∙ ap (λ (d : LiveDocument). printed_row (shown_grid d) n) c.self.view_is)
    ∙ shown-there T i.buffer s c.go_to_row-number.new.cursor (e.paragraphs ∙ h.paragraphs ∙ p.paragraphs) c.go_to_row-number.result n c.loop-test.true same
    ∙ c.text_under-own.ensures.alike T) in
    let at = c.go_to_row-number.new.cursor in
    let start = c.cursor-cursor.result in
    let old = g.W.Sink.written c.args.sink.now in
    let mid = g.W.Sink.written c.loop.sink in
    let new = g.W.Sink.written c.print_row.new.sink in
    let next : (s.skip + n) + 1 ≡ s.skip + (n + 1) = omega arith in
    record {
      working = c.in_ok-print_row.ensures.failed;
      paragraphs = e.paragraphs ∙ h.paragraphs;
      same = further-same (rows_from at.paragraphs at.number) (rows_from start.paragraphs start.number) c.go_to_row-number.result (s.skip + n) 1 (e.same ∙ h.same)
          ∙ ap (λ m. drop m (rows_from start.paragraphs start.number)) next;
      so_far = pieces-on (row_text d.tables (encode_utf8_all (text d.desk.set))) d.window.rows n (get_or d.window.rows n a_row) a_row within refl old mid new h.so_far
          (subst (Appends mid new) (sym is) c.in_ok-print_row.ensures.ok);
    }

pub returns-clause-ok : goal.returns-clause-ok
returns-clause-ok g c =
    let s = c.self.inside.shown in
    let d = c.args.self.now in
    let size = window-size (rows_from c.self.inside.buffer s.first) s.skip s.count c.self.invariant.at_hand.enough in
    let seen = ap (λ (d : LiveDocument). length d.window.rows) c.self.view_is in
    subst (Appends (g.W.Sink.written c.args.sink.now) (g.W.Sink.written c.loop.sink))
    (ap (flat_map (row_text d.tables (encode_utf8_all (text d.desk.set)))) (take-whole d.window.rows c.loop.counter (omega (arith, size, seen, c.loop-test.false)))) c.loop.invariant.so_far
