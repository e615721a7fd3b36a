-- One cell after the other of those that are left of a row.
use Rattle.std.proofs.Common.{◌≡◌, ℕ, suc, ◌+◌, ◌-◌, ◌<◌, List, [], ◌∷◌, ◌++◌, length, replicate, sym, ap, ◌∙◌, arith, append_assoc}
use Rattle.cell_grid.specs.declared.entry.Entry.{Entry}
use Rattle.cell_grid.specs.declared.cell.Cell.TheVariants.{Blank, Head, Tail}
use Rattle.cell_grid.specs.Cells.{entry_cells, entries_cells}
use Rattle.cell_grid.specs.Coming.{cells_left, HasColumns, NoneHasColumns}

pub more-left : (left tails number : ℕ) (es : List Entry) (right : ℕ) → 0 < left → cells_left left tails number es right ≡ Blank ∷ cells_left (left - 1) tails number es right
more-left left tails number es right some = let e : left ≡ suc (left - 1) = omega arith in ap (λ k. cells_left k tails number es right) e

module _ (left number : ℕ) (es : List Entry) (right : ℕ) (none : left ≡ 0) where
  pub more-tails : (tails : ℕ) → 0 < tails → cells_left left tails number es right ≡ Tail (number - 1) ∷ cells_left left (tails - 1) number es right
  more-tails tails some =
      let e : tails ≡ suc (tails - 1) = omega arith in
      ap (λ k. cells_left k tails number es right) none ∙ ap (λ k. cells_left 0 k number es right) e
      ∙ sym (ap (λ k. Tail (number - 1) ∷ cells_left k (tails - 1) number es right) none)

  module _ (tails : ℕ) (over : tails ≡ 0) where
    from-entries : cells_left left tails number es right ≡ entries_cells number es ++ replicate right Blank
    from-entries = ap (λ k. cells_left k tails number es right) none ∙ ap (λ k. cells_left 0 k number es right) over

    pub more-entries : (others : List Entry) (found : ℕ × ℕ) → HasColumns es others found
        → cells_left left tails number es right ≡ Head (number + found.0) ∷ cells_left left (found.1 - 1) (number + found.0 + 1) others right
    more-entries others found h =
        let n = number + found.0 in
        let wide = h.some in
        let e : found.1 ≡ suc (found.1 - 1) = omega arith in
        let same : n ≡ n + 1 - 1 = omega arith in
        let rest = entries_cells (n + 1) others in
        from-entries ∙ ap (λ l. l ++ replicate right Blank) (h.cells number)
        ∙ append_assoc (entry_cells n found.1) rest (replicate right Blank)
        ∙ ap (λ k. entry_cells n k ++ (rest ++ replicate right Blank)) e
        ∙ ap (λ k. Head n ∷ (replicate (found.1 - 1) (Tail k) ++ (rest ++ replicate right Blank))) same
        ∙ sym (ap (λ k. Head n ∷ cells_left k (found.1 - 1) (n + 1) others right) none)

    module _ (others : List Entry) (h : NoneHasColumns es others) where
      only-right : cells_left left tails number es right ≡ replicate right Blank
      only-right = from-entries ∙ ap (λ l. l ++ replicate right Blank) (h.cells number)

      behind : (k : ℕ) → cells_left left tails number others k ≡ replicate k Blank
      behind k =
          ap (λ n. cells_left n tails number others k) none ∙ ap (λ n. cells_left 0 n number others k) over
          ∙ ap (λ l. entries_cells number l ++ replicate k Blank) h.none

      pub more-right : 0 < right → cells_left left tails number es right ≡ Blank ∷ cells_left left tails number others (right - 1)
      more-right some =
          let e : right ≡ suc (right - 1) = omega arith in
          only-right ∙ ap (λ k. replicate k Blank) e ∙ sym (ap (λ l. Blank ∷ l) (behind (right - 1)))

      pub none-more : right ≡ 0 → (cells_left left tails number es right ≡ []) × (cells_left left tails number others right ≡ [])
      none-more e = (only-right ∙ ap (λ k. replicate k Blank) e, behind right ∙ ap (λ k. replicate k Blank) e)

-- ---- entries without columns are passed

module _ (all es others : List Entry) (e : Entry) (passed : ℕ) (so_far : (number : ℕ) → entries_cells number all ≡ entries_cells (number + passed) es) (is : es ≡ e ∷ others) where
  at-first : (number : ℕ) → entries_cells number all ≡ entry_cells (number + passed) e.columns ++ entries_cells (number + passed + 1) others
  at-first number = so_far number ∙ ap (entries_cells (number + passed)) is

  pub passes : e.columns ≡ 0 → (number : ℕ) → entries_cells number all ≡ entries_cells (number + (passed + 1)) others
  passes none number =
      let same : number + passed + 1 ≡ number + (passed + 1) = omega arith in
      at-first number ∙ ap (λ k. entry_cells (number + passed) k ++ entries_cells (number + passed + 1) others) none
      ∙ ap (λ k. entries_cells k others) same

  pub finds : 0 < e.columns → passed + length es ≡ length all → HasColumns all others (passed, e.columns)
  finds some count = record { some = some; cells = at-first; count = (let more = ap length is in omega arith) }

pub finds-none : (all es others : List Entry) (passed : ℕ) → ((number : ℕ) → entries_cells number all ≡ entries_cells (number + passed) es) → es ≡ [] → others ≡ [] → NoneHasColumns all others
finds-none all es others passed so_far is none = record { cells = λ number. so_far number ∙ ap (entries_cells (number + passed)) is; none = none }
