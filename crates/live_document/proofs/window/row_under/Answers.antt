-- The row stands behind the bytes and places of the paragraphs before its own.
use Rattle.std.proofs.Common.{◌≡◌, Some, refl, length, sym, ap, ap₂, subst, ◌∙◌, arith}
use Rattle.std.proofs.lemmas.Option.{slice_get_read}
use Rattle.std.specs.List.{concat}
use Rattle.std.specs.Prelude.{slice_get}
use Rattle.text_buffer.specs.Buffers.{bytes_in}
use Rattle.cell_grid.specs.Rows.{shifted}
use Rattle.cell_grid.specs.Shifting.{MayShiftRow}
use Rattle.live_document.specs.Keeping.{rows_at}
use Rattle.cell_grid.proofs.Interface.{all_at}
use Rattle.live_document.proofs.Stretches.{front-texts}
use Rattle.live_document.proofs.Windows.{own-drawable, kept-may_shift, some-flag}
use Rattle.live_document.proofs.Spots.{row-there}
use Rattle.live_document.proofs.Cursors.{rows_at-there}
use Rattle.live_document.proofs.window.row_under.Goals as goal

pub overflow_cast-result : goal.overflow_cast-result
overflow_cast-result c =
    let h = c.requires.reading.1 in
    let is = c.paragraph-para.ensures.paragraph h.tables h.kept_at.split in
    let d = own-drawable c.laws_below.ensures h.tables h.width h.base c.args.cursor.now.paragraphs h.kept_at h.utf8 h.few c.args.cursor.now.number c.paragraph-para.result is in
    omega (arith, d.bytes, c.first_byte.ensures)

pub overflow_cast-result-2 : goal.overflow_cast-result-2
overflow_cast-result-2 c =
    let h = c.requires.reading.1 in
    let is = c.paragraph-para.ensures.paragraph h.tables h.kept_at.split in
    let d = own-drawable c.laws_below.ensures h.tables h.width h.base c.args.cursor.now.paragraphs h.kept_at h.utf8 h.few c.args.cursor.now.number c.paragraph-para.result is in
    omega (arith, d.places, c.first_place.ensures)

pub invariant_of-result : goal.invariant_of-result
invariant_of-result c =
    let h = c.requires.reading.1 in
    let kept = c.args.cursor.now.paragraphs in
    let n = c.args.cursor.now.number in
    let k = c.args.row in
    let q = c.paragraph-para.result in
    let is = c.paragraph-para.ensures.paragraph h.tables h.kept_at.split in
    let flag = some-flag kept n (omega (arith, c.requires.inside)) in
    let row = c.index-rows-row.result in
    let rows = c.rows_under-rows.ensures in
    let there : slice_get (rows_at kept n) k ≡ Some row = ap (λ l. slice_get l k) (sym rows) ∙ slice_get_read _ _ k row refl (omega (arith, ap length rows, c.requires.inside)) c.index-rows-row.is in
    let all = kept-may_shift c.laws_below.ensures h.tables h.width h.base kept h.kept_at h.utf8 h.few n q is flag in
    let here = all_at (MayShiftRow q.first_byte q.first_place) (rows_at kept n) k row all there in
    subst (λ m. MayShiftRow m c.first_place.result row) (sym c.first_byte.ensures) (subst (λ m. MayShiftRow q.first_byte m row) (sym c.first_place.ensures) here)

pub returns : goal.returns
returns c =
    let kept = c.args.cursor.now.paragraphs in
    let n = c.args.cursor.now.number in
    let k = c.args.row in
    let e = c.paragraph-para.ensures in
    let row = c.index-rows-row.result in
    let rows = c.rows_under-rows.ensures in
    let there : slice_get (rows_at kept n) k ≡ Some row = ap (λ l. slice_get l k) (sym rows) ∙ slice_get_read _ _ k row refl (omega (arith, ap length rows, c.requires.inside)) c.index-rows-row.is in
    let byte = c.first_byte.ensures ∙ e.first_byte ∙ ap (λ ts. bytes_in (concat ts)) (sym (front-texts kept n)) in
    let place = c.first_place.ensures ∙ e.first_place ∙ ap (λ ts. length (concat ts)) (sym (front-texts kept n)) in
    row-there kept n k row (rows_at-there kept n (omega (arith, c.requires.inside))) there ∙ ap₂ (λ m p. Some (shifted m p row)) (sym byte) (sym place)
