-- The row with a number, and how many bytes rows have, one after the other.
use Rattle.std.proofs.Common.{◌≡◌, ◌<◌, ◌≤◌, ◌+◌, ℕ, zero, suc, Some, List, [], ◌∷◌, length, get_or, take, slice_get, refl, sym, ap, subst, ◌∙◌, add-one, length-append, arith}
use Rattle.std.proofs.lemmas.Option.{slice_get_read}
use Rattle.std.specs.List.{All, flat_map}
use Rattle.std.specs.Option.{option_map_or}
use Rattle.cell_grid.specs.Rows.{DrawnRow}
use Rattle.cell_grid.specs.Printable.{AreSlices}

module _ (read rows : List DrawnRow) (n : ℕ) (r : DrawnRow) (same : read ≡ rows) (lt : n < length rows) (is : r ≡ get_or read n r) where
  pub row-there : slice_get rows n ≡ Some r
  row-there = slice_get_read rows (length rows) n r refl lt (is ∙ ap (λ l. get_or l n r) same)

  -- its entries are slices, if those of all rows are
  pub slices-there : (text own : List ℕ) → text ≡ own → All (AreSlices own) rows → AreSlices text r
  slices-there text own same_text all =
      subst (λ t. AreSlices t r) (sym same_text) (subst (AreSlices own) (sym (is ∙ ap (λ l. get_or l n r) same)) (all n r lt))

sized_suc : (f : DrawnRow → List ℕ) (rows : List DrawnRow) (j : ℕ) → j < length rows
    → length (flat_map f (take (suc j) rows)) ≡ length (flat_map f (take j rows)) + length (option_map_or f (slice_get rows j) [])
sized_suc f [] j within = absurd (omega (arith, within))
sized_suc f (r ∷ rows) zero within = omega (arith, length-append (f r) [])
sized_suc f (r ∷ rows) (suc j) within = omega (
  arith,
  length-append (f r) (flat_map f (take (suc j) rows)),
  length-append (f r) (flat_map f (take j rows)),
  sized_suc f rows j (omega (arith, within)),
)

-- with one row more
pub sized_next : (f : DrawnRow → List ℕ) (rows : List DrawnRow) (j : ℕ) → j < length rows
    → length (flat_map f (take (j + 1) rows)) ≡ length (flat_map f (take j rows)) + length (option_map_or f (slice_get rows j) [])
sized_next f rows j within = ap (λ n. length (flat_map f (take n rows))) (add-one j) ∙ sized_suc f rows j within

-- all rows have at least as many bytes
pub sized_within : (f : DrawnRow → List ℕ) (rows : List DrawnRow) (j : ℕ) → length (flat_map f (take j rows)) ≤ length (flat_map f rows)
sized_within f [] zero = omega arith
sized_within f [] (suc j) = omega arith
sized_within f (r ∷ rows) zero = omega arith
sized_within f (r ∷ rows) (suc j) = omega (arith, length-append (f r) (flat_map f (take j rows)), length-append (f r) (flat_map f rows), sized_within f rows j)
