-- Positions and carets, and moves of positions among some of the rows.
use Rattle.std.proofs.Common.{◌≡◌, ℕ, zero, suc, ◌+◌, ◌<◌, ◌≤◌, ◌⊎◌, List, [], ◌∷◌, ◌++◌, length, get_or, Option, Some, None, inl, inr, refl, sym, ap, subst, ◌∙◌, arith, true}
use Rattle.std.specs.Prelude.{◌==◌, slice_get}
use Rattle.std.specs.Option.{option_map_or, IsSomeAnd}
use Rattle.std.proofs.lemmas.Bool.{le-leb, lt-leb, cases_lt}
use Rattle.std.proofs.lemmas.Option.{slice_get_within, get_or_from_slice_get}
use Rattle.cell_grid.specs.Rows.{DrawnRow}
use Rattle.cell_grid.specs.Windows.{begins_by, row_at, FirstPlacesRise, HasWindow}
use Rattle.cell_grid.proofs.Interface.{last_below-is, slice_get-second, row_at-second, row_at-within}
use Rattle.caret.specs.declared.caret.Caret.{Caret}
use Rattle.caret.specs.declared.position.Position.{Position}
use Rattle.caret.specs.Gaps.{IsCaretOf}
use Rattle.caret.specs.Moves.{right_of, left_of, up_of, down_of}
use Rattle.caret.specs.Places.{holds, ends_at, before_cluster, behind_cluster, gap_zero, entry_where, at_cluster, at_end, caret_in_row, caret_among}
use Rattle.caret.specs.Positions.{position_of, position_at, caret_of, IsPositionOf, PositionsAreCarets, MovesAlike, MovesInWindow}
use Rattle.caret.proofs.RowOrder.{rises-at, begins_by-at}
use Rattle.caret.proofs.Neighbours.{lower, moved-along, chosen-along, stays, chosen-stays, right-same, left-same, up-same, down-same, right-stays, left-stays, up-stays, down-stays}

-- some row, for elements past the end
pub a_row : DrawnRow
a_row = record { first_place = 0; last_place = 0; para_level = 0; entries = []; cells = [] }

-- ---- the row of a first place

-- among rows that rise, the row of a row's first place is that row
pub row_at-first : (rows : List DrawnRow) (k : ℕ) (row : DrawnRow) → FirstPlacesRise rows → slice_get rows k ≡ Some row → row_at rows row.first_place ≡ k
row_at-first rows k row rises is =
    let within = slice_get_within rows k row is in
    let read = get_or_from_slice_get rows k row row is in
    let same = ap (λ (r : DrawnRow). r.first_place) read in
    last_below-is (begins_by rows row.first_place) (length rows) k within
    (begins_by-at rows row.first_place k row within ∙ le-leb _ _ (omega arith))
    (λ j above below.
    let later = rises-at rows k j row rises above below in
    begins_by-at rows row.first_place j row below ∙ lt-leb _ _ (omega arith))

-- a caret's row
caret_row : (rows : List DrawnRow) (caret : Caret) → IsCaretOf rows caret → (row : DrawnRow) × (slice_get rows caret.row ≡ Some row) × (caret.gap ≤ length row.entries)
caret_row rows caret stands = at (slice_get rows caret.row) refl stands
  where
    at : (o : Option DrawnRow) → slice_get rows caret.row ≡ o → IsSomeAnd o (λ (r : DrawnRow). caret.gap ≤ length r.entries)
        → (row : DrawnRow) × (slice_get rows caret.row ≡ Some row) × (caret.gap ≤ length row.entries)
    at None e h = absurd h
    at (Some row) e h = (row, e, h)

none_within : {A : Type 0} (xs : List A) (k : ℕ) → slice_get xs k ≡ None → k < length xs → ⊥
none_within [] k at within = absurd (omega arith)
none_within (x ∷ xs) zero at within = cc
none_within (x ∷ xs) (suc k) at within = none_within xs k at (omega arith)

abbrev pub first_or_0 : Option DrawnRow → ℕ
first_or_0 o = option_map_or (λ (r : DrawnRow). r.first_place) o 0

pub positions-carets : (rows : List DrawnRow) → FirstPlacesRise rows → PositionsAreCarets rows
positions-carets rows rises = record {
  to_position = λ caret stands.
      let found = caret_row rows caret stands in
      let first = ap first_or_0 found.1 in
      let at = ap (row_at rows) first ∙ row_at-first rows caret.row found.0 rises found.1 in
      record { row = found.0; is = ap (slice_get rows) at ∙ found.1; first = sym first; gap = found.2 };
  back = λ caret stands.
      let found = caret_row rows caret stands in
      let at = ap (row_at rows) (ap first_or_0 found.1) ∙ row_at-first rows caret.row found.0 rises found.1 in
      ap (λ n. let c : Caret = record { row = n; gap = caret.gap; place = caret.place } in c) at;
  to_caret = λ position stands. subst (λ o. IsSomeAnd o (λ (r : DrawnRow). position.gap ≤ length r.entries)) (sym stands.is) stands.gap;
  forth = λ position stands. ap (λ n. let p : Position = record { row = n; gap = position.gap; place = position.place } in p) (ap first_or_0 stands.is ∙ stands.first);
}

-- rows that rise begin by the place of a position of theirs
pub begun-position : (rows : List DrawnRow) (position : Position) → FirstPlacesRise rows → IsPositionOf rows position → begins_by rows position.row 0 ≡ true
begun-position rows position rises stands =
    let k = row_at rows position.row in
    let within = slice_get_within rows k stands.row stands.is in
    let read = ap (λ (r : DrawnRow). r.first_place) (get_or_from_slice_get rows k stands.row stands.row stands.is) in
    let first = stands.first in
    begins_by-at rows position.row 0 stands.row (omega arith)
    ∙ le-leb _ _ (elim (cases_lt 0 k) [
      | inl later ↦ let less = rises-at rows 0 k stands.row rises later within in omega arith
      | inr same ↦ let e : 0 ≡ k = omega arith in let f = ap (λ n. (get_or rows n stands.row).first_place) e in omega arith
    ])

-- ---- among some of the rows

position-along : (before rows after : List DrawnRow) (c : Caret) (a_row : DrawnRow) → c.row < length rows → position_of (before ++ (rows ++ after)) (lower (length before) c) ≡ position_of rows c
position-along before rows after c a_row low =
    ap (λ o. let p : Position = record { row = first_or_0 o; gap = c.gap; place = c.place } in p) (slice_get-second before rows after c.row a_row low)

module _ (before rows after : List DrawnRow) (position : Position) (h : HasWindow before rows after 1 1 position.row) (stands : IsPositionOf rows position) where
  abbrev all : List DrawnRow
  all = before ++ (rows ++ after)

  abbrev caret : Caret
  caret = caret_of rows position

  number : row_at all position.row ≡ length before + row_at rows position.row
  number = row_at-second before rows after position.row h.begun h.past

  within : row_at rows position.row < length rows
  within = row_at-within before rows after position.row h.begun h.past

  caret-lower : caret_of all position ≡ lower (length before) (caret_of rows position)
  caret-lower = ap (λ n. let c : Caret = record { row = n; gap = position.gap; place = position.place } in c) number

  position-lower : (c : Caret) → c.row < length rows → position_of all (lower (length before) c) ≡ position_of rows c
  position-lower c low = position-along before rows after c stands.row low

  alike : (move : List DrawnRow → Caret → Caret) → move all (lower (length before) caret) ≡ lower (length before) (move rows caret) → (move rows caret).row < length rows
      → MovesAlike move all rows position
  alike move same low = ap (λ c. position_of all (move all c)) caret-lower ∙ ap (position_of all) same ∙ position-lower (move rows caret) low

  above : (0 < caret.row) ⊎ (before ≡ [])
  above = elim h.up [ inl up ↦ inl (omega arith) | inr none ↦ inr none ]

  below : (caret.row + 1 < length rows) ⊎ (after ≡ [])
  below = elim h.down [ inl down ↦ inl (omega arith) | inr none ↦ inr none ]

  pub moves-in_window : MovesInWindow before rows after position
  moves-in_window = record {
    among_all = record {
      row = stands.row;
      is = ap (slice_get all) number ∙ slice_get-second before rows after (row_at rows position.row) stands.row within ∙ stands.is;
      first = stands.first;
      gap = stands.gap;
    };
    right = alike right_of (right-same before rows after caret within above below stands.row) (right-stays rows caret within);
    left = alike left_of (left-same before rows after caret within above below stands.row) (left-stays rows caret within);
    up = alike up_of (up-same before rows after caret within above below stands.row) (up-stays rows caret within);
    down = alike down_of (down-same before rows after caret within above below stands.row) (down-stays rows caret within);
  }

-- ---- the position of a place

-- the caret at a place of a row, by its number here and in all rows
caret_in_row-along : (n p k : ℕ) (row : DrawnRow) → caret_in_row p (n + k) row ≡ lower n (caret_in_row p k row)
caret_in_row-along n p k row =
    chosen-along n (p == row.last_place) (at_end (n + k) row) (at_cluster p (n + k) row) (at_end k row) (at_cluster p k row)
    (moved-along n (entry_where (ends_at row.last_place) row.entries) (behind_cluster (n + k)) (behind_cluster k) (gap_zero (n + k) row.last_place) (gap_zero k row.last_place) (λ found at. refl) refl)
    (moved-along n (entry_where (holds p) row.entries) (before_cluster (n + k)) (before_cluster k) (gap_zero (n + k) p) (gap_zero k p) (λ found at. refl) refl)

caret_in_row-row : (p k m : ℕ) (row : DrawnRow) → k < m → (caret_in_row p k row).row < m
caret_in_row-row p k m row low =
    chosen-stays (p == row.last_place) (at_end k row) (at_cluster p k row) m
    (stays (entry_where (ends_at row.last_place) row.entries) (behind_cluster k) (gap_zero k row.last_place) m (λ found at. low) low)
    (stays (entry_where (holds p) row.entries) (before_cluster k) (gap_zero k p) m (λ found at. low) low)

module _ (before rows : List DrawnRow) (place k : ℕ) where
  caret-along : (o : Option DrawnRow) → slice_get rows k ≡ o → k < length rows
      → option_map_or (caret_in_row place (length before + k)) o (gap_zero 0 place) ≡ lower (length before) (option_map_or (caret_in_row place k) o (gap_zero 0 place))
  caret-along None at within = absurd (none_within rows k at within)
  caret-along (Some row) at within = caret_in_row-along (length before) place k row

caret-row : (rows : List DrawnRow) (place k : ℕ) (o : Option DrawnRow) → k < length rows → (option_map_or (caret_in_row place k) o (gap_zero 0 place)).row < length rows
caret-row rows place k None within = omega arith
caret-row rows place k (Some row) within = caret_in_row-row place k (length rows) row within

module _ (before rows after : List DrawnRow) (above below place : ℕ) (h : HasWindow before rows after above below place) (a_row : DrawnRow) where
  pub place-in_window : position_at (before ++ (rows ++ after)) place ≡ position_at rows place
  place-in_window =
      let all = before ++ (rows ++ after) in
      let n = length before in
      let k = row_at rows place in
      let number = row_at-second before rows after place h.begun h.past in
      let within = row_at-within before rows after place h.begun h.past in
      let same : caret_among all place ≡ lower n (caret_among rows place) =
      ap (λ m. option_map_or (caret_in_row place m) (slice_get all m) (gap_zero 0 place)) number
      ∙ ap (λ o. option_map_or (caret_in_row place (n + k)) o (gap_zero 0 place)) (slice_get-second before rows after k a_row within)
      ∙ caret-along before rows place k (slice_get rows k) refl within in
      ap (position_of all) same ∙ position-along before rows after (caret_among rows place) a_row (caret-row rows place k (slice_get rows k) within)
