-- The row of a caret, as it is read, and the moves between rows by the rows that they read.
use Rattle.std.proofs.Common.{◌≡◌, ℕ, zero, suc, ◌+◌, ◌-◌, ◌<◌, ◌≤◌, Bool, cond, List, [], ◌∷◌, length, get_or, None, Some, inl, inr, refl, ap, sym, subst, ◌∙◌, arith}
use Rattle.std.specs.Prelude.{slice_get}
use Rattle.std.specs.Option.{option_map_or, IsSomeAnd}
use Rattle.std.proofs.lemmas.Option.{slice_get_read, slice_get_past, slice_get_cases}
use Rattle.reorder.specs.VisualList.{is_odd}
use Rattle.cell_grid.specs.Rows.{DrawnRow}
use Rattle.caret.specs.declared.caret.Caret.{Caret}
use Rattle.caret.specs.Lists.{element_before}
use Rattle.caret.specs.Gaps.{IsCaretOf, gap_column}
use Rattle.caret.specs.Moves.{logical_end, onwards, backwards, over_to_right, over_to_left, past_right_edge, past_left_edge, right_in, left_in, right_of, left_of, caret_by, column_of, up_of, down_of}
use Rattle.caret.proofs.Steps.{element_before-is}

-- an element of a list, as it was read
pub element_read : {A : Type 0} (xs read : List A) (i : ℕ) (x : A) → read ≡ xs → i < length xs → x ≡ get_or read i x → slice_get xs i ≡ Some x
element_read xs read i x same within is = slice_get_read xs (length xs) i x refl within (is ∙ ap (λ l. get_or l i x) same)

-- where there is no element there are no more
pub none_there : {A : Type 0} (xs : List A) (k : ℕ) → None ≡ slice_get xs k → length xs ≤ k
none_there [] k none = omega arith
none_there (x ∷ xs) zero none = cc
none_there (x ∷ xs) (suc k) none = let later = none_there xs k none in omega arith

-- and no gap within them has none before it but the first
pub none_before : {A : Type 0} (xs : List A) (n : ℕ) → n ≤ length xs → None ≡ element_before xs n → n ≤ 0
none_before xs zero within none = omega arith
none_before xs (suc n) within none = let past = none_there xs n none in absurd (omega arith)

-- a caret of these rows stands in one of them
pub row_within : (rows : List DrawnRow) (caret : Caret) → IsCaretOf rows caret → caret.row < length rows
row_within rows caret stands =
    elim (slice_get_cases rows caret.row).1 [
      | inl found ↦ found.1
      | inr past ↦ absurd (subst (λ o. IsSomeAnd o (λ (r : DrawnRow). caret.gap ≤ length r.entries)) past.1 stands)
    ]

-- in the one that was read
pub row_read : (rows read : List DrawnRow) (caret : Caret) (row : DrawnRow) → IsCaretOf rows caret → read ≡ rows → row ≡ get_or read caret.row row → slice_get rows caret.row ≡ Some row
row_read rows read caret row stands same is = element_read rows read caret.row row same (row_within rows caret stands) is

-- at one of its gaps
pub gap_within : (rows : List DrawnRow) (caret : Caret) (row : DrawnRow) → IsCaretOf rows caret → slice_get rows caret.row ≡ Some row → caret.gap ≤ length row.entries
gap_within rows caret row stands is = subst (λ o. IsSomeAnd o (λ (r : DrawnRow). caret.gap ≤ length r.entries)) is stands

module _ (rows : List DrawnRow) (caret : Caret) (row : DrawnRow) (is : slice_get rows caret.row ≡ Some row) where
  -- right from the right edge, by the parity of the paragraph's level
  pub right_of-edge : (b : Bool) → length row.entries ≤ caret.gap → b ≡ is_odd row.para_level → right_of rows caret ≡ cond b (backwards rows caret) (onwards rows caret)
  right_of-edge b past level =
      ap (λ o. option_map_or (right_in rows caret) o caret) is
      ∙ ap (λ o. option_map_or (over_to_right caret) o (past_right_edge rows caret row)) (slice_get_past row.entries caret.gap past)
      ∙ ap (λ b. cond b (backwards rows caret) (onwards rows caret)) (sym level)

  -- left from the left edge
  pub left_of-edge : (b : Bool) → caret.gap ≤ 0 → b ≡ is_odd row.para_level → left_of rows caret ≡ cond b (onwards rows caret) (backwards rows caret)
  left_of-edge b first level =
      let none : caret.gap ≡ 0 = omega arith in
      ap (λ o. option_map_or (left_in rows caret) o caret) is
      ∙ ap (λ n. option_map_or (over_to_left caret) (element_before row.entries n) (past_left_edge rows caret row)) none
      ∙ ap (λ b. cond b (onwards rows caret) (backwards rows caret)) (sym level)

  -- the row before
  pub up_of-row : (above : DrawnRow) → 0 < caret.row → slice_get rows (caret.row - 1) ≡ Some above → up_of rows caret ≡ caret_by (gap_column row caret.gap) (caret.row - 1) above
  up_of-row above some at =
      ap (λ o. option_map_or (caret_by (column_of rows caret) (caret.row - 1)) o caret) (element_before-is rows caret.row some ∙ at)
      ∙ ap (λ o. caret_by (option_map_or (λ (r : DrawnRow). gap_column r caret.gap) o 0) (caret.row - 1) above) is

  -- the next row
  pub down_of-row : (next : DrawnRow) → slice_get rows (caret.row + 1) ≡ Some next → down_of rows caret ≡ caret_by (gap_column row caret.gap) (caret.row + 1) next
  down_of-row next at =
      ap (λ o. option_map_or (caret_by (column_of rows caret) (caret.row + 1)) o caret) at
      ∙ ap (λ o. caret_by (option_map_or (λ (r : DrawnRow). gap_column r caret.gap) o 0) (caret.row + 1) next) is

-- and none after the last
pub down_of-last : (rows : List DrawnRow) (caret : Caret) → length rows ≤ caret.row + 1 → down_of rows caret ≡ caret
down_of-last rows caret past = ap (λ o. option_map_or (caret_by (column_of rows caret) (caret.row + 1)) o caret) (slice_get_past rows (caret.row + 1) past)

-- to the row before
pub backwards-row : (rows : List DrawnRow) (caret : Caret) (before : DrawnRow) → 0 < caret.row → slice_get rows (caret.row - 1) ≡ Some before → backwards rows caret ≡ logical_end (caret.row - 1) before
backwards-row rows caret before some at = ap (λ o. option_map_or (logical_end (caret.row - 1)) o caret) (element_before-is rows caret.row some ∙ at)
