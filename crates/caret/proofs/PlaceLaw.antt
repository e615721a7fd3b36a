-- Each place of a drawn text has its cluster, and the text's end the last one.
use Rattle.std.proofs.Common.{◌≡◌, ℕ, ◌+◌, ◌-◌, ◌<◌, List, [], ◌∷◌, length, Some, refl, ap, sym, subst, ◌∙◌, inl, inr, arith}
use Rattle.std.specs.Prelude.{nat_le, nat_lt, slice_get}
use Rattle.std.specs.Option.{option_map_or}
use Rattle.std.specs.List.{All}
use Rattle.std.specs.Str.{chars}
use Rattle.std.proofs.lemmas.Bool.{leb-true, ltb-true, le-leb, lt-ltb, eq-eqb, eqb-true, and_parts, and_from, cases_lt}
use Rattle.cell_grid.proofs.Interface.{all_at}
use Rattle.cell_grid.specs.declared.entry.Entry.{Entry}
use Rattle.cell_grid.specs.Rows.{DrawnRow}
use Rattle.cell_grid.specs.Grids.{DrawnGrid}
use Rattle.cell_grid.specs.Laws.{RowsFollow, Holds, IsWithin, HoldsPlacesOnce}
use Rattle.caret.specs.declared.caret.Caret.{Caret}
use Rattle.caret.specs.Places.{begins_by, row_at, holds, ends_at, entry_where, before_cluster, behind_cluster, gap_zero, at_cluster, at_end, caret_at}
use Rattle.caret.specs.Laws.{StandsBeforeCluster, StandsBehindText}
use Rattle.cell_grid.proofs.Interface.{last_below-within}
use Rattle.caret.proofs.RowOrder.{first_place-row_at, last_place-row_at, row_at-end, last_place-at_end, first_place-last_place}
use Rattle.caret.proofs.CaretAt.{caret_at-end, caret_at-cluster}
use Rattle.caret.proofs.Finding.{Found, found}
use Rattle.caret.proofs.Steps.{an_element}

-- the first entry that passes, where one passes
module _ (number : ℕ) (row : DrawnRow) where
  at_cluster-found : (p : ℕ) (f : Found (holds p) 0 row.entries) → at_cluster p number row ≡ before_cluster number (f.number, f.entry)
  at_cluster-found p f =
      ap (λ o. option_map_or (before_cluster number) o (gap_zero number p)) f.is
      ∙ ap (λ n. before_cluster number (n, f.entry)) (let same : 0 + f.number ≡ f.number = omega arith in same)

  at_end-found : (f : Found (ends_at row.last_place) 0 row.entries) → at_end number row ≡ behind_cluster number (f.number, f.entry)
  at_end-found f =
      ap (λ o. option_map_or (behind_cluster number) o (gap_zero number row.last_place)) f.is
      ∙ ap (λ n. behind_cluster number (n, f.entry)) (let same : 0 + f.number ≡ f.number = omega arith in same)

  at_end-empty : row.entries ≡ [] → at_end number row ≡ gap_zero number row.last_place
  at_end-empty empty = ap (λ entries. option_map_or (behind_cluster number) (entry_where (ends_at row.last_place) entries) (gap_zero number row.last_place)) empty

-- a row without places has no entries
no_entries : (row : DrawnRow) (entries : List Entry) → All (IsWithin row) entries → row.first_place ≡ row.last_place → entries ≡ []
no_entries row [] within none = refl
no_entries row (e ∷ entries) within none = let first = within 0 e (omega arith) in absurd (omega arith)

module _ (grid : DrawnGrid) (p number : ℕ) (row : DrawnRow) (is : slice_get grid.rows number ≡ Some row) (caret : Caret) where
  -- the caret in this row
  row-of : caret.row ≡ number → slice_get grid.rows caret.row ≡ Some row
  row-of same = ap (λ n. slice_get grid.rows n) same ∙ is

  before-found : (f : Found (holds p) 0 row.entries) → caret ≡ before_cluster number (f.number, f.entry) → StandsBeforeCluster grid p caret
  before-found f same =
      let parts = and_parts (nat_le f.entry.span.first_place p) (nat_lt p f.entry.span.end_place) f.here in
      let in_row : caret.row ≡ number = ap (λ (c : Caret). c.row) same in
      record {
        row = row;
        row_is = row-of in_row;
        number = f.number;
        entry = f.entry;
        entry_is = f.at;
        from = leb-true _ _ parts.0;
        to = ltb-true _ _ parts.1;
        is = same ∙ ap (λ r. before_cluster r (f.number, f.entry)) (sym in_row);
      }

  behind-found : number + 1 ≡ length grid.rows → (f : Found (ends_at p) 0 row.entries) → caret ≡ behind_cluster number (f.number, f.entry) → StandsBehindText grid p caret
  behind-found last f same =
      let in_row : caret.row ≡ number = ap (λ (c : Caret). c.row) same in
      record {
        row = row;
        row_is = row-of in_row;
        last = omega arith;
        is = inr (record {
          number = f.number;
          entry = f.entry;
          entry_is = f.at;
          ends = eqb-true _ _ f.here;
          is = same ∙ ap (λ r. behind_cluster r (f.number, f.entry)) (sym in_row);
        });
      }

  behind-empty : number + 1 ≡ length grid.rows → row.entries ≡ [] → caret ≡ gap_zero number p → StandsBehindText grid p caret
  behind-empty last empty same =
      let in_row : caret.row ≡ number = ap (λ (c : Caret). c.row) same in
      record {
        row = row;
        row_is = row-of in_row;
        last = omega arith;
        is = inl (empty, same ∙ ap (λ r. gap_zero r p) (sym in_row));
      }

-- some entry of a row with places ends where the row does
ends-held : (row : DrawnRow) → HoldsPlacesOnce row → row.first_place < row.last_place → Found (ends_at row.last_place) 0 row.entries
ends-held row once some =
    let holder = once.each (row.last_place - 1) (omega arith) (omega arith) in
    let held : Holds row holder.0 (row.last_place - 1) = holder.1 in
    let within : IsWithin row held.entry = all_at (IsWithin row) row.entries holder.0 held.entry once.within held.is in
    let upto = within.to in
    let past = held.to in
    found (ends_at row.last_place) holder.0 row.entries held.entry held.is (eq-eqb _ _ (omega arith))

module _ (grid : DrawnGrid) (p : ℕ) (row : DrawnRow)
    (some : 0 < length grid.rows)
    (follow : RowsFollow 0 grid.rows (length (chars grid.text)))
    (once : HoldsPlacesOnce row)
    (is : slice_get grid.rows (row_at grid.rows p) ≡ Some row) where
  found_before : p < length (chars grid.text) → Found (holds p) 0 row.entries → StandsBeforeCluster grid p (caret_at grid p)
  found_before within f =
      before-found grid p (row_at grid.rows p) row is (caret_at grid p) f
      (sym (caret_at-cluster grid p row follow is (λ same. absurd (omega (arith, last_place-row_at (length (chars grid.text)) p grid.rows row follow is within))))
      ∙ at_cluster-found (row_at grid.rows p) row p f)

  held_at : (n : ℕ) → Holds row n p → Found (holds p) 0 row.entries
  held_at n held = found (holds p) n row.entries held.entry held.is (and_from _ _ (le-leb _ _ held.from) (lt-ltb _ _ held.to))

  stands_before : p < length (chars grid.text) → StandsBeforeCluster grid p (caret_at grid p)
  stands_before within =
      let holder = once.each p (first_place-row_at (length (chars grid.text)) p grid.rows row follow is some)
      (last_place-row_at (length (chars grid.text)) p grid.rows row follow is within) in
      found_before within (held_at holder.0 holder.1)

  found_behind : p ≡ length (chars grid.text) → Found (ends_at row.last_place) 0 row.entries → StandsBehindText grid row.last_place (caret_at grid p)
  found_behind end f =
      behind-found grid row.last_place (row_at grid.rows p) row is (caret_at grid p) (row_at-end (length (chars grid.text)) p grid.rows row follow is end) f
      (sym (caret_at-end grid p row follow is (last_place-at_end (length (chars grid.text)) p grid.rows row follow is end))
      ∙ at_end-found (row_at grid.rows p) row f)

  found_none : p ≡ length (chars grid.text) → row.entries ≡ [] → StandsBehindText grid row.last_place (caret_at grid p)
  found_none end empty =
      behind-empty grid row.last_place (row_at grid.rows p) row is (caret_at grid p) (row_at-end (length (chars grid.text)) p grid.rows row follow is end) empty
      (sym (caret_at-end grid p row follow is (last_place-at_end (length (chars grid.text)) p grid.rows row follow is end))
      ∙ at_end-empty (row_at grid.rows p) row empty)

  stands_behind : p ≡ length (chars grid.text) → StandsBehindText grid p (caret_at grid p)
  stands_behind end =
      let order = first_place-last_place 0 (length (chars grid.text)) grid.rows (row_at grid.rows p) row follow is in
      subst (λ q. StandsBehindText grid q (caret_at grid p)) (sym (last_place-at_end (length (chars grid.text)) p grid.rows row follow is end))
      (elim (cases_lt row.first_place row.last_place) [
        | inl places ↦ found_behind end (ends-held row once places)
        | inr none ↦ found_none end (no_entries row row.entries once.within (omega arith))
      ])

pub each_place : (grid : DrawnGrid) (p : ℕ) → 0 < length grid.rows → RowsFollow 0 grid.rows (length (chars grid.text)) → All HoldsPlacesOnce grid.rows
    → (p < length (chars grid.text) → StandsBeforeCluster grid p (caret_at grid p)) × (p ≡ length (chars grid.text) → StandsBehindText grid p (caret_at grid p))
each_place grid p some follow places =
    an_element grid.rows (row_at grid.rows p) (last_below-within (begins_by grid.rows p) (length grid.rows) some) (λ row is.
    let once : HoldsPlacesOnce row = all_at HoldsPlacesOnce grid.rows (row_at grid.rows p) row places is in
    (stands_before grid p row some follow once is, stands_behind grid p row some follow once is))
