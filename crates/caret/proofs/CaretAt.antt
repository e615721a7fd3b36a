-- The caret at a place, by the row that was found.
use Rattle.std.proofs.Common.{◌≡◌, ℕ, ◌<◌, ◌≤◌, List, [], ◌∷◌, length, get_or, Some, cond, inl, inr, refl, ap, sym, subst, ◌∙◌, arith}
use Rattle.std.specs.Prelude.{slice_get}
use Rattle.std.specs.Option.{option_map_or, IsSomeAnd}
use Rattle.std.specs.Str.{chars}
use Rattle.std.proofs.lemmas.Bool.{eq-eqb, ne_eqb, cases_eq}
use Rattle.std.proofs.lemmas.Option.{slice_get_read, slice_get-get_or}
use Rattle.cell_grid.specs.declared.entry.Entry.{Entry}
use Rattle.cell_grid.specs.Rows.{DrawnRow}
use Rattle.cell_grid.specs.Grids.{DrawnGrid}
use Rattle.cell_grid.specs.Laws.{RowsFollow}
use Rattle.cell_grid.proofs.Interface.{last_below-within}
use Rattle.caret.specs.declared.caret.Caret.{Caret}
use Rattle.caret.specs.Gaps.{IsCaretOf}
use Rattle.caret.specs.Places.{begins_by, row_at, holds, entry_where, before_cluster, at_cluster, at_end, gap_zero, caret_in, caret_at, caret_in_row, caret_among}
use Rattle.caret.proofs.RowOrder.{last_place-at_end, end-at_last_place}

-- the row with this number, as it was read
pub found_row : (rows read : List DrawnRow) (number n : ℕ) (row : DrawnRow) → read ≡ rows → number ≡ n → number < length rows → row ≡ get_or read number row → slice_get rows n ≡ Some row
found_row rows read number n row same at within is =
    let read_there : slice_get rows number ≡ Some row = slice_get_read rows (length rows) number row refl within (is ∙ ap (λ xs. get_or xs number row) same) in
    subst (λ k. slice_get rows k ≡ Some row) at read_there

-- a caret in a row of the grid, at one of its gaps
pub IsCaretOf-in_row : (rows : List DrawnRow) (number : ℕ) (row : DrawnRow) (caret : Caret)
    → slice_get rows number ≡ Some row → caret.row ≡ number → caret.gap ≤ length row.entries → IsCaretOf rows caret
IsCaretOf-in_row rows number row caret is in_row within =
    subst (λ o. IsSomeAnd o (λ (r : DrawnRow). caret.gap ≤ length r.entries)) (sym (ap (λ n. slice_get rows n) in_row ∙ is)) within

module _ (grid : DrawnGrid) (p : ℕ) (row : DrawnRow) (follow : RowsFollow 0 grid.rows (length (chars grid.text))) (is : slice_get grid.rows (row_at grid.rows p) ≡ Some row) where
  caret_at-row : caret_at grid p ≡ caret_in (length (chars grid.text)) p (row_at grid.rows p) row
  caret_at-row = ap (λ o. option_map_or (caret_in (length (chars grid.text)) p (row_at grid.rows p)) o (gap_zero 0 p)) is

  -- where p is the row's last place, it is the text's end
  pub caret_at-end : p ≡ row.last_place → at_end (row_at grid.rows p) row ≡ caret_at grid p
  caret_at-end same =
      let at = eq-eqb p (length (chars grid.text)) (end-at_last_place (length (chars grid.text)) p grid.rows row follow is same) in
      sym (caret_at-row ∙ ap (λ b. cond b (at_end (row_at grid.rows p) row) (at_cluster p (row_at grid.rows p) row)) at)

  -- and otherwise it isn't
  pub caret_at-cluster : (p ≡ row.last_place → ⊥) → at_cluster p (row_at grid.rows p) row ≡ caret_at grid p
  caret_at-cluster other =
      let at = ne_eqb p (length (chars grid.text)) (λ end. other (last_place-at_end (length (chars grid.text)) p grid.rows row follow is end)) in
      sym (caret_at-row ∙ ap (λ b. cond b (at_end (row_at grid.rows p) row) (at_cluster p (row_at grid.rows p) row)) at)

-- the caret at a cluster that was found
pub at_cluster-found : (p number : ℕ) (row : DrawnRow) (read : List Entry) (gap : ℕ) (entry : Entry)
    → read ≡ row.entries → Some (gap, entry) ≡ entry_where (holds p) read → at_cluster p number row ≡ before_cluster number (gap, entry)
at_cluster-found p number row read gap entry same is =
    ap (λ o. option_map_or (before_cluster number) o (gap_zero number p)) (ap (λ es. entry_where (holds p) es) (sym same) ∙ sym is)

-- the caret among rows, by the row that was found
module _ (rows : List DrawnRow) (p : ℕ) (row : DrawnRow) (is : slice_get rows (row_at rows p) ≡ Some row) where
  among-row : caret_among rows p ≡ caret_in_row p (row_at rows p) row
  among-row = ap (λ o. option_map_or (caret_in_row p (row_at rows p)) o (gap_zero 0 p)) is

  pub among-end : p ≡ row.last_place → at_end (row_at rows p) row ≡ caret_among rows p
  among-end same = sym (among-row ∙ ap (λ b. cond b (at_end (row_at rows p) row) (at_cluster p (row_at rows p) row)) (eq-eqb p row.last_place same))

  pub among-cluster : (p ≡ row.last_place → ⊥) → at_cluster p (row_at rows p) row ≡ caret_among rows p
  among-cluster other = sym (among-row ∙ ap (λ b. cond b (at_end (row_at rows p) row) (at_cluster p (row_at rows p) row)) (ne_eqb p row.last_place other))

-- among the rows of a grid it is the grid's
pub among-grid : (grid : DrawnGrid) (p : ℕ) → RowsFollow 0 grid.rows (length (chars grid.text)) → 0 < length grid.rows → caret_among grid.rows p ≡ caret_at grid p
among-grid grid p follow some = at grid.rows refl
  where
    by_row : (row : DrawnRow) → slice_get grid.rows (row_at grid.rows p) ≡ Some row → caret_among grid.rows p ≡ caret_at grid p
    by_row row is = elim (cases_eq p row.last_place) [
      | inl same ↦ sym (among-end grid.rows p row is same) ∙ caret_at-end grid p row follow is same
      | inr other ↦ sym (among-cluster grid.rows p row is other) ∙ caret_at-cluster grid p row follow is other
    ]

    at : (rows : List DrawnRow) → grid.rows ≡ rows → caret_among grid.rows p ≡ caret_at grid p
    at [] e = absurd (omega (arith, ap length e))
    at (r ∷ rows) e = by_row (get_or grid.rows (row_at grid.rows p) r) (slice_get-get_or grid.rows (row_at grid.rows p) r (last_below-within (begins_by grid.rows p) (length grid.rows) some))
