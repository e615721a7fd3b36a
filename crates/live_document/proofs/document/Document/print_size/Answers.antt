-- One row after the other.
use Rattle.std.proofs.Common.{◌≡◌, ◌<◌, ◌+◌, ◌++◌, length, drop, get_or, take, flat_map, refl, sym, ap, ap₂, ◌∙◌, arith, length-append}
use Rattle.std.specs.Prelude.{encode_utf8_all}
use Rattle.unicode_tables.specs.Tables.{TableValues}
use Rattle.rga_tree.specs.TextOf.{text}
use Rattle.cell_grid.specs.Print.{printed, printed_row, row_text}
use Rattle.cell_grid.proofs.Interface.{flat_map-split_at, flat_map-take_next, take-whole, too-long}
use Rattle.live_document.specs.Documents.{LiveDocument, shown_grid}
use Rattle.live_document.specs.Showing.{rows_from, shown_in}
use Rattle.live_document.proofs.Cursors.{inside-there, reading-there}
use Rattle.live_document.proofs.Followed.{live-readable}
use Rattle.live_document.proofs.Printed.{a_row, live-seen, row-piece, shown-there}
use Rattle.live_document.proofs.Spots.{further-same, window-size}
use Rattle.live_document.proofs.document.Document.print_size.Goals as goal

pub cursor-cursor-requires : goal.cursor-cursor-requires
cursor-cursor-requires c = c.self.invariant.at_hand.there

pub go_to_row-number-requires : goal.go_to_row-number-requires
go_to_row-number-requires c =
    let i = c.self.inside in
    let s = i.shown in
    let h = c.loop.invariant in
    let p = c.cursor-cursor.ensures in
    let readable = live-readable i.desk i.tables.value i.width i.base i.behind i.buffer s i.held c.self.invariant in
    inside-there i.buffer s c.loop.cursor readable (h.paragraphs ∙ p.paragraphs) c.loop.row c.loop.counter c.loop-test.true
    (h.same ∙ ap (drop (s.skip + c.loop.counter)) (ap₂ rows_from p.paragraphs p.number))

pub text_under-own-requires-clause-reading : goal.text_under-own-requires-clause-reading
text_under-own-requires-clause-reading c =
    let i = c.self.inside in
    let s = i.shown in
    let h = c.loop.invariant in
    let e = c.go_to_row-number.ensures in
    let p = c.cursor-cursor.ensures in
    let b = c.bytes-bytes.ensures in
    let readable = live-readable i.desk i.tables.value i.width i.base i.behind i.buffer s i.held c.self.invariant in
    reading-there i.buffer s c.go_to_row-number.new.cursor readable (e.paragraphs ∙ h.paragraphs ∙ p.paragraphs) c.go_to_row-number.result c.loop.counter c.loop-test.true
    (e.same ∙ h.same ∙ ap (drop (s.skip + c.loop.counter)) (ap₂ rows_from p.paragraphs p.number)) (omega (arith, b.bytes, b.few)) b.utf8

pub loop-init : goal.loop-init
loop-init c =
    let s = c.self.inside.shown in
    let first : s.skip ≡ s.skip + 0 = omega arith in
    record {
      paragraphs = refl;
      same = ap (λ m. drop m (rows_from c.cursor-cursor.result.paragraphs c.cursor-cursor.result.number)) first;
      so_far = refl;
    }

pub loop-preserved : goal.loop-preserved
loop-preserved c =
    let i = c.self.inside in
    let s = i.shown in
    let d = c.args.self.now in
    let n = c.loop.counter in
    let h = c.loop.invariant in
    let e = c.go_to_row-number.ensures in
    let p = c.cursor-cursor.ensures in
    let own = c.text_under-own.result in
    let T = c.deref.result.now in
    let same = e.same ∙ h.same ∙ ap (drop (s.skip + n)) (ap₂ rows_from p.paragraphs p.number) in
    let size = window-size (rows_from i.buffer s.first) s.skip s.count c.self.invariant.at_hand.enough in
    let seen = ap (λ (d : LiveDocument). length d.window.rows) c.self.view_is in
    let within : n < length d.window.rows = omega (arith, c.loop-test.true, size, seen) in
    let is = row-piece (shown_grid d) n (row_text T own.text.now own.row.now) within
    (sym (ap (λ (t : TableValues). printed_row (shown_in t i.buffer s) n) c.deref.ensures
    ∙ live-seen (row_text i.tables.value) i.desk i.tables.value i.width i.base i.behind i.buffer s i.held n c.self.invariant
    ∙ ap (λ (d : LiveDocument). printed_row (shown_grid d) n) c.self.view_is)
    ∙ shown-there T i.buffer s c.go_to_row-number.new.cursor (e.paragraphs ∙ h.paragraphs ∙ p.paragraphs) c.go_to_row-number.result n c.loop-test.true same
    ∙ c.text_under-own.ensures.alike T) in
    let at = c.go_to_row-number.new.cursor in
    let start = c.cursor-cursor.result in
    let f = row_text d.tables (encode_utf8_all (text d.desk.set)) in
    let more = ap length (flat_map-take_next f d.window.rows n (get_or d.window.rows n a_row) a_row within refl) in
    let two = length-append (flat_map f (take n d.window.rows)) (f (get_or d.window.rows n a_row)) in
    let next : (s.skip + n) + 1 ≡ s.skip + (n + 1) = omega arith in
    let sum = rw c.in_ok-size.ensures.ok_part at c.checked_add.ensures in
    record {
      paragraphs = e.paragraphs ∙ h.paragraphs;
      same = further-same (rows_from at.paragraphs at.number) (rows_from start.paragraphs start.number) c.go_to_row-number.result (s.skip + n) 1 (e.same ∙ h.same)
          ∙ ap (λ m. drop m (rows_from start.paragraphs start.number)) next;
      so_far = omega (arith, sum.1, c.in_ok-more.ensures, h.so_far, ap length is, more, two);
    }

pub returns-in_err-more : goal.returns-in_err-more
returns-in_err-more c =
    let i = c.self.inside in
    let s = i.shown in
    let d = c.args.self.now in
    let n = c.loop.counter in
    let h = c.loop.invariant in
    let e = c.go_to_row-number.ensures in
    let p = c.cursor-cursor.ensures in
    let own = c.text_under-own.result in
    let T = c.deref.result.now in
    let same = e.same ∙ h.same ∙ ap (drop (s.skip + n)) (ap₂ rows_from p.paragraphs p.number) in
    let size = window-size (rows_from i.buffer s.first) s.skip s.count c.self.invariant.at_hand.enough in
    let seen = ap (λ (d : LiveDocument). length d.window.rows) c.self.view_is in
    let within : n < length d.window.rows = omega (arith, c.loop-test.true, size, seen) in
    let is = row-piece (shown_grid d) n (row_text T own.text.now own.row.now) within
    (sym (ap (λ (t : TableValues). printed_row (shown_in t i.buffer s) n) c.deref.ensures
    ∙ live-seen (row_text i.tables.value) i.desk i.tables.value i.width i.base i.behind i.buffer s i.held n c.self.invariant
    ∙ ap (λ (d : LiveDocument). printed_row (shown_grid d) n) c.self.view_is)
    ∙ shown-there T i.buffer s c.go_to_row-number.new.cursor (e.paragraphs ∙ h.paragraphs ∙ p.paragraphs) c.go_to_row-number.result n c.loop-test.true same
    ∙ c.text_under-own.ensures.alike T) in
    let f = row_text d.tables (encode_utf8_all (text d.desk.set)) in
    let split = ap length (flat_map-split_at f d.window.rows n (get_or d.window.rows n a_row) a_row within refl) in
    let front = length-append (flat_map f (take n d.window.rows)) (f (get_or d.window.rows n a_row) ++ flat_map f (drop (n + 1) d.window.rows)) in
    let back = length-append (f (get_or d.window.rows n a_row)) (flat_map f (drop (n + 1) d.window.rows)) in
    too-long (printed (shown_grid d)) c.from_residual.result c.from_residual.ensures.0
    (omega (arith, c.in_err-more.ensures, ap length is, split, front, back))

pub returns-in_err-size : goal.returns-in_err-size
returns-in_err-size c =
    let i = c.self.inside in
    let s = i.shown in
    let d = c.args.self.now in
    let n = c.loop.counter in
    let h = c.loop.invariant in
    let e = c.go_to_row-number.ensures in
    let p = c.cursor-cursor.ensures in
    let own = c.text_under-own.result in
    let T = c.deref.result.now in
    let same = e.same ∙ h.same ∙ ap (drop (s.skip + n)) (ap₂ rows_from p.paragraphs p.number) in
    let size = window-size (rows_from i.buffer s.first) s.skip s.count c.self.invariant.at_hand.enough in
    let seen = ap (λ (d : LiveDocument). length d.window.rows) c.self.view_is in
    let within : n < length d.window.rows = omega (arith, c.loop-test.true, size, seen) in
    let is = row-piece (shown_grid d) n (row_text T own.text.now own.row.now) within
    (sym (ap (λ (t : TableValues). printed_row (shown_in t i.buffer s) n) c.deref.ensures
    ∙ live-seen (row_text i.tables.value) i.desk i.tables.value i.width i.base i.behind i.buffer s i.held n c.self.invariant
    ∙ ap (λ (d : LiveDocument). printed_row (shown_grid d) n) c.self.view_is)
    ∙ shown-there T i.buffer s c.go_to_row-number.new.cursor (e.paragraphs ∙ h.paragraphs ∙ p.paragraphs) c.go_to_row-number.result n c.loop-test.true same
    ∙ c.text_under-own.ensures.alike T) in
    let f = row_text d.tables (encode_utf8_all (text d.desk.set)) in
    let split = ap length (flat_map-split_at f d.window.rows n (get_or d.window.rows n a_row) a_row within refl) in
    let front = length-append (flat_map f (take n d.window.rows)) (f (get_or d.window.rows n a_row) ++ flat_map f (drop (n + 1) d.window.rows)) in
    let back = length-append (f (get_or d.window.rows n a_row)) (flat_map f (drop (n + 1) d.window.rows)) in
    let sum = rw c.in_err-size.ensures.ok_part at c.checked_add.ensures in
    too-long (printed (shown_grid d)) c.from_residual-in_err-size.result c.from_residual-in_err-size.ensures.0
    (omega (arith, sum, c.in_ok-more.ensures, h.so_far, ap length is, split, front, back))

pub returns : goal.returns
returns c =
    let s = c.self.inside.shown in
    let d = c.args.self.now in
    let size = window-size (rows_from c.self.inside.buffer s.first) s.skip s.count c.self.invariant.at_hand.enough in
    let seen = ap (λ (d : LiveDocument). length d.window.rows) c.self.view_is in
    let whole = ap (λ l. length (flat_map (row_text d.tables (encode_utf8_all (text d.desk.set))) l)) (take-whole d.window.rows c.loop.counter (omega (arith, size, seen, c.loop-test.false))) in
    c.loop.invariant.so_far ∙ whole
