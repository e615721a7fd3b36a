-- The gaps of a row, as its entries are gone over.
use Rattle.std.proofs.Common.{◌≡◌, ℕ, suc, ◌≤◌, Bool, true, false, cond, length, Some, ap, ◌∙◌}
use Rattle.std.proofs.lemmas.Option.{slice_get_past}
use Rattle.std.specs.Option.{option_map_or}
use Rattle.std.specs.Prelude.{slice_get}
use Rattle.cell_grid.specs.declared.entry.Entry.{Entry}
use Rattle.cell_grid.specs.Rows.{DrawnRow}
use Rattle.caret.specs.Gaps.{row_end, gap_column}
use Rattle.caret.specs.Lists.{last_below}

pub column-there : (row : DrawnRow) (n : ℕ) (e : Entry) → slice_get row.entries n ≡ Some e → gap_column row n ≡ e.column
column-there row n e is = ap (λ o. option_map_or (λ (x : Entry). x.column) o (row_end row)) is

pub column-past : (row : DrawnRow) (n : ℕ) → length row.entries ≤ n → gap_column row n ≡ row_end row
column-past row n past = ap (λ o. option_map_or (λ (x : Entry). x.column) o (row_end row)) (slice_get_past row.entries n past)

module _ (f : ℕ → Bool) (n m : ℕ) (next : m ≡ suc n) where
  pub last-here : f n ≡ true → last_below f m ≡ n
  last-here passes = ap (last_below f) next ∙ ap (λ b. cond b n (last_below f n)) passes

  pub last-before : f n ≡ false → last_below f m ≡ last_below f n
  last-before fails = ap (last_below f) next ∙ ap (λ b. cond b n (last_below f n)) fails
