-- The cluster that is seen begins before the text's end.
use Rattle.std.proofs.Common.{◌≡◌, length, slice_get, Some, sym, ap, subst, ◌∙◌}
use Rattle.std.proofs.lemmas.Option.{slice_get-get_or}
use Rattle.std.specs.Str.{chars}
use Rattle.cell_grid.specs.Rows.{DrawnRow}
use Rattle.calling.proofs.Pointing.{seen-within}
use Rattle.calling.proofs.mouse.place_under.Goals as goal

pub returns-clause-within : goal.returns-clause-within
returns-clause-within c =
    let grid = c.args.grid.now in
    let row : DrawnRow = c.in_ok-get.field-0.now in
    let found = c.in_ok-get.ensures.lookup in
    let row_is : slice_get grid.rows c.args.row ≡ Some row =
    subst (λ xs. slice_get xs c.args.row ≡ Some row) c.rows.ensures.rows
    (slice_get-get_or c.rows.result.now c.args.row row found.3.0 ∙ ap Some (sym found.1)) in
    seen-within (length (chars grid.text)) c.args.row c.args.column grid.rows row c.in_ok-entry.entry
    (c.rows_follow.ensures.follow grid c.rows.ensures.drawn) (c.places_once.ensures grid c.rows.ensures.drawn)
    row_is (sym c.in_ok-entry.ensures)
