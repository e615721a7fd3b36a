-- Entries in visual order: how many there are, and how wide they are.
use Rattle.std.proofs.Common.{◌≡◌, ℕ, zero, suc, ◌+◌, ◌-◌, ◌<◌, ◌≤◌, true, false, cond, List, [], ◌∷◌, ◌++◌, map, length, get_or, sum, sum_by, IsPermutation, All, refl, sym, ap, subst, ◌∙◌, arith, length-append, inl, inr}
use Rattle.std.proofs.lemmas.List.{ext_get_or, length-replicate}
use Rattle.std.proofs.lemmas.List.FromFn.{length-map-range_with_len, get_or-map-range_with_len, get_or-range_with_len, length-range_with_len}
use Rattle.std.proofs.lemmas.List.Sorted.{All-permutation, sum_by-IsPermutation}
use Rattle.std.proofs.lemmas.List.Sums.{sum-map, sum_by-cons}
use Rattle.std.specs.List.{range_with_len}
use Rattle.reorder.specs.VisualList.{is_odd}
use Rattle.paragraphs.specs.declared.span.Span.{Span}
use Rattle.cell_grid.specs.declared.entry.Entry.{Entry}
use Rattle.cell_grid.specs.Spans.{extent}
use Rattle.cell_grid.specs.Hanging.{hung}
use Rattle.cell_grid.specs.Cells.{entry_cells, entries_cells, ColumnsFollow, total}
use Rattle.cell_grid.specs.Rows.{entries_from, start_column, shifted_entry}
use Rattle.cell_grid.proofs.Hung.{hung-fits, hung-full}
use Rattle.std.proofs.lemmas.Bool.Decides.{leb_tells}

-- a list is its elements by number
pub map-numbers : {X : Type 0} (xs : List X) (d : X) → map (λ k. get_or xs k d) (range_with_len 0 (length xs)) ≡ xs
map-numbers {X} xs d =
    let f : ℕ → X = λ k. get_or xs k d in
    let n = length-map-range_with_len f 0 (length xs) in
    ext_get_or d (map f (range_with_len 0 (length xs))) xs n
    (λ i lt. get_or-map-range_with_len f 0 (length xs) i i d (omega arith) (omega arith))

pub numbers-below : (n : ℕ) → All (λ k. k < n) (range_with_len 0 n)
numbers-below n i d lt =
    let e = get_or-range_with_len 0 n i d in let len = length-range_with_len 0 n in
    let within : i < n = omega arith in
    let at = e within in
    omega arith

-- an order of n numbers
module _ (n : ℕ) (order : List ℕ) (p : IsPermutation (range_with_len 0 n) order) where
  pub order-below : All (λ k. k < n) order
  order-below = All-permutation (λ k. k < n) (range_with_len 0 n) order p (numbers-below n)

  -- in another order the columns are as many
  pub sum-order : (columns : List ℕ) → length columns ≡ n → sum_by (λ k. get_or columns k 0) order ≡ sum columns
  sum-order columns len =
      sum_by-IsPermutation (λ k. get_or columns k 0) (range_with_len 0 n) order p
      ∙ ap (λ m. sum_by (λ k. get_or columns k 0) (range_with_len 0 m)) (sym len)
      ∙ sym (sum-map (λ k. get_or columns k 0) (range_with_len 0 (length columns)))
      ∙ ap sum (map-numbers columns 0)

module _ (spans : List Span) (levels columns : List ℕ) where
  pub total-entries_from : (column : ℕ) (order : List ℕ) → sum_by (λ (e : Entry). e.columns) (entries_from spans levels columns column order) ≡ sum_by (λ k. get_or columns k 0) order
  total-entries_from column [] = refl
  total-entries_from column (k ∷ order) =
      let here : Entry = record { span = get_or spans k (extent []); level = get_or levels k 0; column = column; columns = get_or columns k 0 } in
      sum_by-cons (λ (e : Entry). e.columns) here (entries_from spans levels columns (column + get_or columns k 0) order)
      ∙ ap (λ n. get_or columns k 0 + n) (total-entries_from (column + get_or columns k 0) order)
      ∙ sym (sum_by-cons (λ k. get_or columns k 0) k order)

  pub spans-entries_from : (column : ℕ) (order : List ℕ) → map (λ (e : Entry). e.span) (entries_from spans levels columns column order) ≡ map (λ k. get_or spans k (extent [])) order
  spans-entries_from column [] = refl
  spans-entries_from column (k ∷ order) = ap (λ l. get_or spans k (extent []) ∷ l) (spans-entries_from (column + get_or columns k 0) order)

pub same_follow : (from : ℕ) (es : List Entry) (a b : ℕ) → a ≡ b → ColumnsFollow from es a → ColumnsFollow from es b
same_follow from es a b e h = subst (ColumnsFollow from es) e h

-- they stand side by side
module _ (spans : List Span) (levels columns : List ℕ) where
  pub follow-entries : (column : ℕ) (order : List ℕ) → ColumnsFollow column (entries_from spans levels columns column order) (column + sum_by (λ k. get_or columns k 0) order)
  follow-entries column [] = omega arith
  follow-entries column (k ∷ order) =
      let e = sum_by-cons (λ k. get_or columns k 0) k order in (
        refl,
        same_follow (column + get_or columns k 0) (entries_from spans levels columns (column + get_or columns k 0) order)
            (column + get_or columns k 0 + sum_by (λ k. get_or columns k 0) order) (column + sum_by (λ k. get_or columns k 0) (k ∷ order)) (omega arith)
            (follow-entries (column + get_or columns k 0) order),
      )

pub follow-shifted : (i j : ℕ) (es : List Entry) (from to : ℕ) → ColumnsFollow from es to → ColumnsFollow from (map (shifted_entry i j) es) to
follow-shifted i j [] from to h = h
follow-shifted i j (e ∷ es) from to h = (h.0, follow-shifted i j es (e.column + e.columns) to h.1)

pub total-shifted : (i j : ℕ) (es : List Entry) → total (map (shifted_entry i j) es) ≡ total es
total-shifted i j [] = refl
total-shifted i j (e ∷ es) =
    sum_by-cons (λ (x : Entry). x.columns) (shifted_entry i j e) (map (shifted_entry i j) es)
    ∙ ap (λ n. e.columns + n) (total-shifted i j es) ∙ sym (sum_by-cons (λ (x : Entry). x.columns) e es)

-- an entry has as many cells as columns
pub length-entry_cells : (number n : ℕ) → length (entry_cells number n) ≡ n
length-entry_cells number zero = refl
length-entry_cells number (suc n) = ap suc (length-replicate n _)

-- as many cells as columns
pub length-entries_cells : (number : ℕ) (entries : List Entry) → length (entries_cells number entries) ≡ sum_by (λ (e : Entry). e.columns) entries
length-entries_cells number [] = refl
length-entries_cells number (e ∷ later) =
    length-append (entry_cells number e.columns) (entries_cells (number + 1) later)
    ∙ ap (λ n. n + length (entries_cells (number + 1) later)) (length-entry_cells number e.columns)
    ∙ ap (λ n. e.columns + n) (length-entries_cells (number + 1) later)
    ∙ sym (sum_by-cons (λ (e : Entry). e.columns) e later)

-- a row that begins there ends within the width
pub start-fits : (width para_level : ℕ) (columns : List ℕ) → sum columns ≤ width → start_column width para_level columns + sum columns ≤ width
start-fits width para_level columns le =
    elim (is_odd para_level) as (λ b. cond b (width - sum columns) 0 + sum columns ≤ width) [ true ↦ omega arith | false ↦ omega arith ]

-- ---- columns that hang

pub length-hung : (room : ℕ) (columns : List ℕ) → length (hung room columns) ≡ length columns
length-hung room [] = refl
length-hung room (n ∷ later) = elim (leb_tells n room) [
  | inl fits ↦ ap length (hung-fits room n later fits.1) ∙ ap suc (length-hung (room - n) later)
  | inr full ↦ ap length (hung-full room n later full.1) ∙ ap suc (length-hung 0 later)
]

pub sum-hung : (room : ℕ) (columns : List ℕ) → sum (hung room columns) ≤ room
sum-hung room [] = omega arith
sum-hung room (n ∷ later) = elim (leb_tells n room) [
  | inl fits ↦
      let le = fits.1 in
      let a = ap sum (hung-fits room n later le) in
      let b = sum_by-cons (λ (x : ℕ). x) n (hung (room - n) later) in
      let c = sum-hung (room - n) later in
      omega arith
  | inr full ↦
      let a = ap sum (hung-full room n later full.1) in
      let b = sum_by-cons (λ (x : ℕ). x) 0 (hung 0 later) in
      let c = sum-hung 0 later in
      omega arith
]

-- what fits altogether has its own columns
pub hung-append : (room : ℕ) (xs ys : List ℕ) → sum xs ≤ room → hung room (xs ++ ys) ≡ xs ++ hung (room - sum xs) ys
hung-append room [] ys le = let e : room ≡ room - 0 = omega arith in ap (λ r. hung r ys) e
hung-append room (n ∷ xs) ys le =
    let all = sum_by-cons (λ (x : ℕ). x) n xs in
    let e : room - n - sum xs ≡ room - sum (n ∷ xs) = omega arith in
    hung-fits room n (xs ++ ys) (omega arith)
    ∙ ap (λ l. n ∷ l) (hung-append (room - n) xs ys (omega arith) ∙ ap (λ r. xs ++ hung r ys) e)
