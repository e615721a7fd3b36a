-- The row and its paragraph's text, as the text's grid has them.
use Rattle.std.proofs.Common.{◌≡◌, Some, List, ℕ, refl, length, sym, ap, subst, ◌∙◌, arith}
use Rattle.std.proofs.lemmas.Option.{slice_get_read}
use Rattle.std.specs.Prelude.{slice_get}
use Rattle.cell_grid.specs.Print.{own_sizes, row_text}
use Rattle.cell_grid.specs.Printable.{AreSlices}
use Rattle.live_document.specs.Keeping.{rows_at}
use Rattle.live_document.proofs.Printed.{own-slices, there-alike}
use Rattle.live_document.proofs.printing.text_under.Goals as goal

pub returns-clause-slices : goal.returns-clause-slices
returns-clause-slices c =
    let h = c.requires.reading.1 in
    let kept = c.args.cursor.now.paragraphs in
    let n = c.args.cursor.now.number in
    let k = c.args.row in
    let q = c.paragraph-para.result in
    let is = c.paragraph-para.ensures.paragraph h.tables h.kept_at.split in
    let row = c.index-rows-row.result in
    let rows = c.rows_under-rows.ensures in
    let there : slice_get (rows_at kept n) k ≡ Some row = ap (λ l. slice_get l k) (sym rows) ∙ slice_get_read _ _ k row refl (omega (arith, ap length rows, c.requires.inside)) c.index-rows-row.is in
    subst (λ (text : List ℕ). AreSlices text row) (sym c.text.ensures) (own-slices c.laws_below.ensures h.tables h.width h.base kept h.kept_at h.utf8 h.few n q is k row there)

pub returns-clause-alike : goal.returns-clause-alike
returns-clause-alike c =
    let h = c.requires.reading.1 in
    let kept = c.args.cursor.now.paragraphs in
    let n = c.args.cursor.now.number in
    let k = c.args.row in
    let q = c.paragraph-para.result in
    let is = c.paragraph-para.ensures.paragraph h.tables h.kept_at.split in
    let row = c.index-rows-row.result in
    let rows = c.rows_under-rows.ensures in
    let there : slice_get (rows_at kept n) k ≡ Some row = ap (λ l. slice_get l k) (sym rows) ∙ slice_get_read _ _ k row refl (omega (arith, ap length rows, c.requires.inside)) c.index-rows-row.is in
    λ tables. there-alike c.laws_below.ensures h.tables h.width h.base kept h.kept_at h.utf8 h.few n q is k row there (row_text tables) (c.laws_below.ensures.prints_alike tables)
    ∙ ap (λ text. row_text tables text row) (sym c.text.ensures)

pub returns-clause-sizes : goal.returns-clause-sizes
returns-clause-sizes c =
    let h = c.requires.reading.1 in
    let kept = c.args.cursor.now.paragraphs in
    let n = c.args.cursor.now.number in
    let k = c.args.row in
    let q = c.paragraph-para.result in
    let is = c.paragraph-para.ensures.paragraph h.tables h.kept_at.split in
    let row = c.index-rows-row.result in
    let rows = c.rows_under-rows.ensures in
    let there : slice_get (rows_at kept n) k ≡ Some row = ap (λ l. slice_get l k) (sym rows) ∙ slice_get_read _ _ k row refl (omega (arith, ap length rows, c.requires.inside)) c.index-rows-row.is in
    λ tables. there-alike c.laws_below.ensures h.tables h.width h.base kept h.kept_at h.utf8 h.few n q is k row there (own_sizes tables) (c.laws_below.ensures.sizes_alike tables)
    ∙ ap (λ text. own_sizes tables text row) (sym c.text.ensures)
