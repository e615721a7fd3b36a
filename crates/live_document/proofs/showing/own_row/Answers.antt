-- The paragraph's rows rise, and the first begins by the place.
use Rattle.std.proofs.Common.{◌≡◌, ◌-◌, ◌≤◌, ℕ, false, [], length, get_or, take, sym, ap, ap₂, subst, ◌∙◌, arith}
use Rattle.std.proofs.lemmas.Bool.{false_from_ne_true}
use Rattle.std.specs.List.{concat}
use Rattle.cell_grid.specs.Rows.{rows_of}
use Rattle.text_buffer.specs.Buffers.{bytes_in, paragraphs_in, text_in}
use Rattle.text_buffer.specs.Edits.{IsParagraphOf}
use Rattle.cell_grid.specs.Windows.{FirstPlacesRise, begins_by, row_at}
use Rattle.live_document.specs.Keeping.{KeptText, flags, is_kept, rows_at, rows_of_text, rows_weight}
use Rattle.live_document.specs.Showing.{IsRowOf}
use Rattle.live_document.proofs.Beside.{rows_at-laid}
use Rattle.live_document.proofs.Cursors.{paragraph-there}
use Rattle.cell_grid.proofs.Interface.{on_err}
use Rattle.live_document.proofs.Marks.{set-mark}
use Rattle.live_document.proofs.Stretches.{count-texts, count-flags}
use Rattle.live_document.proofs.Windows.{own-text, own-first, own-rises, own-begun}
use Rattle.live_document.proofs.showing.own_row.Goals as goal

pub lay_out-requires-clause-number : goal.lay_out-requires-clause-number
lay_out-requires-clause-number c = let n = count-texts c.go_to.new.self in omega (arith, n, c.paragraph_of-number.ensures.there)

pub cursor-cursor-requires : goal.cursor-cursor-requires
cursor-cursor-requires c =
    let n = count-texts c.go_to.new.self in
    let m = count-texts c.lay_out.new.buffer in
    omega (arith, n, m, ap length c.in_ok-out.ensures.paragraphs, c.paragraph_of-number.ensures.there)

pub overflow_sub-place : goal.overflow_sub-place
overflow_sub-place c =
    let new = c.lay_out.new.buffer in
    let e = c.in_ok-out.ensures in
    let b = c.bytes-bytes.ensures in
    let at = c.cursor-cursor.ensures in
    let is = paragraph-there c.args.tables.now new c.paragraph_of-number.result c.cursor-cursor.result c.paragraph.result at.paragraphs at.number e.kept.split (c.paragraph.ensures.paragraph c.args.tables.now) in
    let first = own-first c.laws_below.ensures c.args.tables.now c.args.width c.args.base new e.kept b.utf8 (omega (arith, b.bytes, b.few)) c.paragraph_of-number.result c.paragraph.result is in
    omega (arith, first, ap (λ ts. length (concat (take c.paragraph_of-number.result ts))) e.paragraphs, c.paragraph_of-number.ensures.begun, c.first_place-first_place.ensures)

pub row_at-requires-clause-rises : goal.row_at-requires-clause-rises
row_at-requires-clause-rises c =
    let T = c.args.tables.now in
    let w = c.args.width in
    let base = c.args.base in
    let old = c.go_to.new.self in
    let new = c.lay_out.new.buffer in
    let n = c.paragraph_of-number.result in
    let e = c.in_ok-out.ensures in
    let b = c.bytes-bytes.ensures in
    let q = c.paragraph.result in
    let at = c.cursor-cursor.ensures in
    let is = paragraph-there T new n c.cursor-cursor.result q at.paragraphs at.number e.kept.split (c.paragraph.ensures.paragraph T) in
    let few : bytes_in (text_in new) ≤ 4_000_000 = omega (arith, b.bytes, b.few) in
    let count = count-texts old in
    let marks = count-flags old in
    let flag = set-mark (flags old) (flags new) n e.marks (omega (arith, c.paragraph_of-number.ensures.there)) in
    let own = own-text c.laws_below.ensures T w base new e.kept b.utf8 few n q is in
    let rows = c.rows_under-rows.ensures ∙ ap₂ rows_at at.paragraphs at.number ∙ rows_at-laid T w base new e.kept.laid n flag ∙ own in
    subst FirstPlacesRise (sym rows) (own-rises c.laws_below.ensures T w base new e.kept b.utf8 few n q is)

pub row_at-requires-clause-begun : goal.row_at-requires-clause-begun
row_at-requires-clause-begun c =
    let T = c.args.tables.now in
    let w = c.args.width in
    let base = c.args.base in
    let old = c.go_to.new.self in
    let new = c.lay_out.new.buffer in
    let n = c.paragraph_of-number.result in
    let e = c.in_ok-out.ensures in
    let b = c.bytes-bytes.ensures in
    let q = c.paragraph.result in
    let at = c.cursor-cursor.ensures in
    let is = paragraph-there T new n c.cursor-cursor.result q at.paragraphs at.number e.kept.split (c.paragraph.ensures.paragraph T) in
    let few : bytes_in (text_in new) ≤ 4_000_000 = omega (arith, b.bytes, b.few) in
    let count = count-texts old in
    let marks = count-flags old in
    let flag = set-mark (flags old) (flags new) n e.marks (omega (arith, c.paragraph_of-number.ensures.there)) in
    let own = own-text c.laws_below.ensures T w base new e.kept b.utf8 few n q is in
    let rows = c.rows_under-rows.ensures ∙ ap₂ rows_at at.paragraphs at.number ∙ rows_at-laid T w base new e.kept.laid n flag ∙ own in
    let first = own-first c.laws_below.ensures T w base new e.kept b.utf8 few n q is in
    let le : q.first_place ≤ c.args.place = omega (arith, first, ap (λ ts. length (concat (take n ts))) e.paragraphs, c.paragraph_of-number.ensures.begun) in
    ap (λ l. begins_by l (c.args.place - c.first_place-first_place.result) 0) rows
    ∙ ap (λ m. begins_by (rows_of T w base q.text) (c.args.place - m) 0) c.first_place-first_place.ensures
    ∙ own-begun c.laws_below.ensures T w base new e.kept b.utf8 few n q is c.args.place le

pub returns-clause-row : goal.returns-clause-row
returns-clause-row c =
    let T = c.args.tables.now in
    let w = c.args.width in
    let base = c.args.base in
    let old = c.go_to.new.self in
    let new = c.lay_out.new.buffer in
    let n = c.paragraph_of-number.result in
    let e = c.in_ok-out.ensures in
    let b = c.bytes-bytes.ensures in
    let q = c.paragraph.result in
    let at = c.cursor-cursor.ensures in
    let is = paragraph-there T new n c.cursor-cursor.result q at.paragraphs at.number e.kept.split (c.paragraph.ensures.paragraph T) in
    let few : bytes_in (text_in new) ≤ 4_000_000 = omega (arith, b.bytes, b.few) in
    let count = count-texts old in
    let marks = count-flags old in
    let flag = set-mark (flags old) (flags new) n e.marks (omega (arith, c.paragraph_of-number.ensures.there)) in
    let rows = c.rows_under-rows.ensures ∙ ap₂ rows_at at.paragraphs at.number ∙ rows_at-laid T w base new e.kept.laid n flag ∙ ap (λ ts. rows_of_text T w base (get_or ts n [])) e.paragraphs in
    let first = own-first c.laws_below.ensures T w base new e.kept b.utf8 few n q is ∙ ap (λ ts. length (concat (take n ts))) e.paragraphs in
    let place = c.first_place-first_place.ensures ∙ first in
    subst (λ was. IsRowOf T w base (paragraphs_in was) c.args.place n c.row_at.result c.in_ok-out.out.rows) c.go_to.ensures
    (record {
      is = c.row_at.ensures.number ∙ ap (λ l. row_at l (c.args.place - c.first_place-first_place.result)) rows
          ∙ ap (λ m. row_at (rows_of_text T w base (get_or (paragraphs_in old) n [])) (c.args.place - m)) place;
      count = e.rows;
      within = omega (arith, c.row_at.ensures.within, ap length rows, e.rows);
    })

pub returns-clause-weight : goal.returns-clause-weight
returns-clause-weight c =
    subst (λ was. c.in_ok-out.out.weight ≡ rows_weight (rows_of_text c.args.tables.now c.args.width c.args.base (get_or (paragraphs_in was) c.paragraph_of-number.result []))) c.go_to.ensures
    c.in_ok-out.ensures.weight

pub returns-in_err-out-clause-refused : goal.returns-in_err-out-clause-refused
returns-in_err-out-clause-refused c =
    let n = c.paragraph_of-number.result in
    on_err c.from_residual.result (subst (λ (was : KeptText). (number : ℕ) × IsParagraphOf (paragraphs_in was) c.args.place number × (is_kept (flags was) number ≡ false)) c.go_to.ensures
    (n, c.paragraph_of-number.ensures, false_from_ne_true (is_kept (flags c.go_to.new.self) n) (λ there. (let e = c.in_err-out.ensures.enough there in cc))))
