-- Steps inside a row.
use Rattle.std.proofs.Common.{◌≡◌, ℕ, zero, suc, ◌-◌, ◌<◌, ◌≤◌, List, [], ◌∷◌, length, get_or, Some, refl, ap, sym, subst, ◌∙◌, arith}
use Rattle.std.specs.Prelude.{slice_get}
use Rattle.std.specs.Option.{option_map_or}
use Rattle.std.proofs.lemmas.Option.{slice_get-get_or}
use Rattle.cell_grid.specs.declared.entry.Entry.{Entry}
use Rattle.cell_grid.specs.Rows.{DrawnRow}
use Rattle.caret.specs.declared.caret.Caret.{Caret}
use Rattle.caret.specs.Lists.{element_before}
use Rattle.caret.specs.Moves.{over_to_right, over_to_left, past_right_edge, past_left_edge, right_in, left_in, right_of, left_of}
use Rattle.caret.specs.Laws.{moved, StandsAt, CrossesOneEntry, VisitsEveryGap, UndoneByOpposite}

pub element_before-is : {A : Type 0} (xs : List A) (n : ℕ) → 0 < n → element_before xs n ≡ slice_get xs (n - 1)
element_before-is xs zero some = absurd (omega arith)
element_before-is xs (suc n) some = ap (λ k. slice_get xs k) (omega arith)

-- the element of a number below theirs
pub an_element : {A P : Type 0} (xs : List A) (k : ℕ) → k < length xs → ((x : A) → slice_get xs k ≡ Some x → P) → P
an_element [] k within then = absurd (omega arith)
an_element (x ∷ xs) k within then = then (get_or (x ∷ xs) k x) (slice_get-get_or (x ∷ xs) k x within)

module _ (rows : List DrawnRow) (row : DrawnRow) where
  pub right_of-inside : (caret : Caret) (e : Entry) → slice_get rows caret.row ≡ Some row → slice_get row.entries caret.gap ≡ Some e → right_of rows caret ≡ over_to_right caret e
  right_of-inside caret e is at =
      ap (λ o. option_map_or (right_in rows caret) o caret) is ∙ ap (λ o. option_map_or (over_to_right caret) o (past_right_edge rows caret row)) at

  pub left_of-inside : (caret : Caret) (e : Entry) → slice_get rows caret.row ≡ Some row → 0 < caret.gap → slice_get row.entries (caret.gap - 1) ≡ Some e → left_of rows caret ≡ over_to_left caret e
  left_of-inside caret e is some at =
      ap (λ o. option_map_or (left_in rows caret) o caret) is
      ∙ ap (λ o. option_map_or (over_to_left caret) o (past_left_edge rows caret row)) (element_before-is row.entries caret.gap some ∙ at)

  right_of-stands : (caret : Caret) (number gap : ℕ) → slice_get rows number ≡ Some row → StandsAt caret number gap → gap < length row.entries → StandsAt (right_of rows caret) number (suc gap)
  right_of-stands caret number gap is at within =
      an_element row.entries gap within (λ e there.
      let step = right_of-inside caret e (ap (λ n. slice_get rows n) at.row ∙ is) (ap (λ n. slice_get row.entries n) at.gap ∙ there) in
      record {
        row = ap (λ (c : Caret). c.row) step ∙ at.row;
        gap = ap (λ (c : Caret). c.gap) step ∙ (let g = at.gap in omega arith);
      })

  left_of-stands : (caret : Caret) (number gap : ℕ) → slice_get rows number ≡ Some row → StandsAt caret number (suc gap) → gap < length row.entries → StandsAt (left_of rows caret) number gap
  left_of-stands caret number gap is at within =
      an_element row.entries gap within (λ e there.
      let g = at.gap in
      let before : caret.gap - 1 ≡ gap = omega arith in
      let step = left_of-inside caret e (ap (λ n. slice_get rows n) at.row ∙ is) (omega arith) (ap (λ n. slice_get row.entries n) before ∙ there) in
      record {
        row = ap (λ (c : Caret). c.row) step ∙ at.row;
        gap = ap (λ (c : Caret). c.gap) step ∙ before;
      })

  visits-right : (number place steps : ℕ) → slice_get rows number ≡ Some row → steps ≤ length row.entries → StandsAt (moved (right_of rows) steps (record { row = number; gap = 0; place = place })) number steps
  visits-right number place zero is within = record { row = refl; gap = refl }
  visits-right number place (suc steps) is within = right_of-stands _ number steps is (visits-right number place steps is (omega arith)) (omega arith)

  visits-left : (number place steps : ℕ) → slice_get rows number ≡ Some row → steps ≤ length row.entries
      → StandsAt (moved (left_of rows) steps (record { row = number; gap = length row.entries; place = place })) number (length row.entries - steps)
  visits-left number place zero is within = record { row = refl; gap = omega arith }
  visits-left number place (suc steps) is within =
      let start : Caret = record { row = number; gap = length row.entries; place = place } in
      let left = length row.entries - suc steps in
      let before = visits-left number place steps is (omega arith) in
      let next : length row.entries - steps ≡ suc left = omega arith in
      left_of-stands (moved (left_of rows) steps start) number left is (subst (λ g. StandsAt (moved (left_of rows) steps start) number g) next before) (omega arith)

pub crosses_one_entry : CrossesOneEntry
crosses_one_entry rows row entry caret is = (right_of-inside rows row caret entry is, left_of-inside rows row caret entry is)

pub visits_every_gap : VisitsEveryGap
visits_every_gap rows row number place steps is within = (visits-right rows row number place steps is within, visits-left rows row number place steps is within)

pub undone_by_opposite : UndoneByOpposite
undone_by_opposite rows row caret is = (
  λ within. left_of-stands rows row (right_of rows caret) caret.row caret.gap is (right_of-stands rows row caret caret.row caret.gap is (record { row = refl; gap = refl }) within) within,
  λ some within.
      let before = caret.gap - 1 in
      let same : caret.gap ≡ suc before = omega arith in
      let back = right_of-stands rows row (left_of rows caret) caret.row before is (left_of-stands rows row caret caret.row before is (record { row = refl; gap = same }) (omega arith)) (omega arith) in
      subst (λ g. StandsAt (right_of rows (left_of rows caret)) caret.row g) (sym same) back,
)
