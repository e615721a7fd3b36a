-- The moves of a caret look at no row but its own and its neighbours.
use Rattle.std.proofs.Common.{◌≡◌, ℕ, zero, suc, ◌+◌, ◌-◌, ◌<◌, ◌⊎◌, Bool, true, false, cond, List, [], ◌++◌, length, Option, Some, None, inl, inr, refl, sym, ap, ◌∙◌, arith, length-append}
use Rattle.std.specs.Prelude.{slice_get}
use Rattle.std.specs.Option.{option_map_or}
use Rattle.std.proofs.lemmas.Bool.{cases_lt}
use Rattle.std.proofs.lemmas.Option.{slice_get_past, slice_get_within}
use Rattle.reorder.specs.VisualList.{is_odd}
use Rattle.cell_grid.specs.Rows.{DrawnRow}
use Rattle.cell_grid.proofs.Interface.{slice_get-second}
use Rattle.caret.specs.declared.caret.Caret.{Caret}
use Rattle.caret.specs.Lists.{element_before}
use Rattle.caret.specs.Gaps.{gap_column}
use Rattle.caret.specs.Moves.{logical_start, logical_end, onwards, backwards, over_to_right, over_to_left, past_right_edge, past_left_edge, right_in, left_in, right_of, left_of, caret_by, column_of, up_of, down_of}

-- the caret so many rows lower
abbrev pub lower : ℕ → Caret → Caret
lower n caret = record { row = n + caret.row; gap = caret.gap; place = caret.place }

pub moved-along : {A : Type 0} (n : ℕ) (o : Option A) (f g : A → Caret) (c d : Caret) → ((x : A) → o ≡ Some x → f x ≡ lower n (g x)) → c ≡ lower n d → option_map_or f o c ≡ lower n (option_map_or g o d)
moved-along n None f g c d same other = other
moved-along n (Some x) f g c d same other = same x refl

pub chosen-along : (n : ℕ) (b : Bool) (f g c d : Caret) → f ≡ lower n c → g ≡ lower n d → cond b f g ≡ lower n (cond b c d)
chosen-along n true f g c d e h = e
chosen-along n false f g c d e h = h

pub stays : {A : Type 0} (o : Option A) (f : A → Caret) (c : Caret) (m : ℕ) → ((x : A) → o ≡ Some x → (f x).row < m) → c.row < m → (option_map_or f o c).row < m
stays None f c m inside own = own
stays (Some x) f c m inside own = inside x refl

pub chosen-stays : (b : Bool) (c d : Caret) (m : ℕ) → c.row < m → d.row < m → (cond b c d).row < m
chosen-stays true c d m h k = h
chosen-stays false c d m h k = k

-- ---- the moves stay in the rows

module _ (rows : List DrawnRow) (caret : Caret) (within : caret.row < length rows) where
  onwards-stays : (onwards rows caret).row < length rows
  onwards-stays = stays (slice_get rows (caret.row + 1)) (logical_start (caret.row + 1)) caret (length rows) (λ row at. slice_get_within rows (caret.row + 1) row at) within

  backwards-stays : (backwards rows caret).row < length rows
  backwards-stays = stays (element_before rows caret.row) (logical_end (caret.row - 1)) caret (length rows) (λ row at. omega arith) within

  pub right-stays : (right_of rows caret).row < length rows
  right-stays =
      stays (slice_get rows caret.row) (right_in rows caret) caret (length rows)
      (λ row at.
      stays (slice_get row.entries caret.gap) (over_to_right caret) (past_right_edge rows caret row) (length rows) (λ entry there. within)
      (chosen-stays (is_odd row.para_level) (backwards rows caret) (onwards rows caret) (length rows) backwards-stays onwards-stays))
      within

  pub left-stays : (left_of rows caret).row < length rows
  left-stays =
      stays (slice_get rows caret.row) (left_in rows caret) caret (length rows)
      (λ row at.
      stays (element_before row.entries caret.gap) (over_to_left caret) (past_left_edge rows caret row) (length rows) (λ entry there. within)
      (chosen-stays (is_odd row.para_level) (onwards rows caret) (backwards rows caret) (length rows) onwards-stays backwards-stays))
      within

  pub up-stays : (up_of rows caret).row < length rows
  up-stays = stays (element_before rows caret.row) (caret_by (column_of rows caret) (caret.row - 1)) caret (length rows) (λ row at. omega arith) within

  pub down-stays : (down_of rows caret).row < length rows
  down-stays = stays (slice_get rows (caret.row + 1)) (caret_by (column_of rows caret) (caret.row + 1)) caret (length rows) (λ row at. slice_get_within rows (caret.row + 1) row at) within

-- ---- a caret of a stretch of rows, with a neighbour on each side or no more rows there

module _ (before rows after : List DrawnRow) (caret : Caret) (within : caret.row < length rows)
    (above : (0 < caret.row) ⊎ (before ≡ [])) (below : (caret.row + 1 < length rows) ⊎ (after ≡ [])) (a_row : DrawnRow) where
  abbrev all : List DrawnRow
  all = before ++ (rows ++ after)

  abbrev n : ℕ
  n = length before

  whole : length all ≡ n + (length rows + length after)
  whole = length-append before (rows ++ after) ∙ ap (λ m. n + m) (length-append rows after)

  row-same : slice_get all (n + caret.row) ≡ slice_get rows caret.row
  row-same = slice_get-second before rows after caret.row a_row within

  next-same : slice_get all (n + caret.row + 1) ≡ slice_get rows (caret.row + 1)
  next-same =
      let e : n + caret.row + 1 ≡ n + (caret.row + 1) = omega arith in
      elim below [
        | inl more ↦ ap (slice_get all) e ∙ slice_get-second before rows after (caret.row + 1) a_row more
        | inr none ↦
            let long = whole in
            let nothing = ap length none in
            elim (cases_lt (caret.row + 1) (length rows)) [
              | inl more ↦ ap (slice_get all) e ∙ slice_get-second before rows after (caret.row + 1) a_row more
              | inr past ↦ slice_get_past all (n + caret.row + 1) (omega arith) ∙ sym (slice_get_past rows (caret.row + 1) past)
            ]
      ]

  before-same : element_before all (n + caret.row) ≡ element_before rows caret.row
  before-same = at caret.row within above
    where
      at : (k : ℕ) → k < length rows → (0 < k) ⊎ (before ≡ []) → element_before all (n + k) ≡ element_before rows k
      at zero low up = elim up [
        | inl some ↦ absurd (omega arith)
        | inr none ↦ let nothing : n + 0 ≡ 0 = (let e = ap length none in omega arith) in ap (element_before all) nothing
      ]
      at (suc k) low up =
          let e : n + suc k ≡ suc (n + k) = omega arith in
          ap (element_before all) e ∙ slice_get-second before rows after k a_row (omega arith)

  onwards-same : onwards all (lower n caret) ≡ lower n (onwards rows caret)
  onwards-same =
      let e : n + caret.row + 1 ≡ n + (caret.row + 1) = omega arith in
      ap (λ o. option_map_or (logical_start (n + caret.row + 1)) o (lower n caret)) next-same
      ∙ moved-along n (slice_get rows (caret.row + 1)) (logical_start (n + caret.row + 1)) (logical_start (caret.row + 1)) (lower n caret) caret
      (λ row at. ap (λ m. logical_start m row) e) refl

  -- a row before is one less, where there is one
  one-less : (row : DrawnRow) → element_before rows caret.row ≡ Some row → n + caret.row - 1 ≡ n + (caret.row - 1)
  one-less row at = less caret.row at
    where
      less : (k : ℕ) → element_before rows k ≡ Some row → n + k - 1 ≡ n + (k - 1)
      less zero h = cc
      less (suc k) h = omega arith

  backwards-same : backwards all (lower n caret) ≡ lower n (backwards rows caret)
  backwards-same =
      ap (λ o. option_map_or (logical_end (n + caret.row - 1)) o (lower n caret)) before-same
      ∙ moved-along n (element_before rows caret.row) (logical_end (n + caret.row - 1)) (logical_end (caret.row - 1)) (lower n caret) caret
      (λ row at. ap (λ m. logical_end m row) (one-less row at)) refl

  pub right-same : right_of all (lower n caret) ≡ lower n (right_of rows caret)
  right-same =
      ap (λ o. option_map_or (right_in all (lower n caret)) o (lower n caret)) row-same
      ∙ moved-along n (slice_get rows caret.row) (right_in all (lower n caret)) (right_in rows caret) (lower n caret) caret
      (λ row at.
      moved-along n (slice_get row.entries caret.gap) (over_to_right (lower n caret)) (over_to_right caret) (past_right_edge all (lower n caret) row) (past_right_edge rows caret row)
      (λ entry there. refl)
      (chosen-along n (is_odd row.para_level) (backwards all (lower n caret)) (onwards all (lower n caret)) (backwards rows caret) (onwards rows caret) backwards-same onwards-same)) refl

  pub left-same : left_of all (lower n caret) ≡ lower n (left_of rows caret)
  left-same =
      ap (λ o. option_map_or (left_in all (lower n caret)) o (lower n caret)) row-same
      ∙ moved-along n (slice_get rows caret.row) (left_in all (lower n caret)) (left_in rows caret) (lower n caret) caret
      (λ row at.
      moved-along n (element_before row.entries caret.gap) (over_to_left (lower n caret)) (over_to_left caret) (past_left_edge all (lower n caret) row) (past_left_edge rows caret row)
      (λ entry there. refl)
      (chosen-along n (is_odd row.para_level) (onwards all (lower n caret)) (backwards all (lower n caret)) (onwards rows caret) (backwards rows caret) onwards-same backwards-same)) refl

  column-same : column_of all (lower n caret) ≡ column_of rows caret
  column-same = ap (λ o. option_map_or (λ (row : DrawnRow). gap_column row caret.gap) o 0) row-same

  pub up-same : up_of all (lower n caret) ≡ lower n (up_of rows caret)
  up-same =
      ap (λ column. option_map_or (caret_by column (n + caret.row - 1)) (element_before all (n + caret.row)) (lower n caret)) column-same
      ∙ ap (λ o. option_map_or (caret_by (column_of rows caret) (n + caret.row - 1)) o (lower n caret)) before-same
      ∙ moved-along n (element_before rows caret.row) (caret_by (column_of rows caret) (n + caret.row - 1)) (caret_by (column_of rows caret) (caret.row - 1)) (lower n caret) caret
      (λ row at. ap (λ m. caret_by (column_of rows caret) m row) (one-less row at)) refl

  pub down-same : down_of all (lower n caret) ≡ lower n (down_of rows caret)
  down-same =
      let e : n + caret.row + 1 ≡ n + (caret.row + 1) = omega arith in
      ap (λ column. option_map_or (caret_by column (n + caret.row + 1)) (slice_get all (n + caret.row + 1)) (lower n caret)) column-same
      ∙ ap (λ o. option_map_or (caret_by (column_of rows caret) (n + caret.row + 1)) o (lower n caret)) next-same
      ∙ moved-along n (slice_get rows (caret.row + 1)) (caret_by (column_of rows caret) (n + caret.row + 1)) (caret_by (column_of rows caret) (caret.row + 1)) (lower n caret) caret
      (λ row at. ap (λ m. caret_by (column_of rows caret) m row) e) refl
