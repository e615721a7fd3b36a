-- The cells of entries that follow one another stand where the entries say.
use Rattle.std.proofs.Common.{◌≡◌, ℕ, zero, suc, ◌+◌, ◌-◌, ◌<◌, ◌≤◌, ◌⊎◌, List, [], ◌∷◌, ◌++◌, slice_get, Some, refl, sym, ap, subst, ◌∙◌, arith, inl, inr}
use Rattle.std.proofs.lemmas.Bool.Decides.{leb_tells}
use Rattle.cell_grid.specs.declared.entry.Entry.{Entry}
use Rattle.cell_grid.specs.declared.cell.Cell.{Cell}
use Rattle.cell_grid.specs.declared.cell.Cell.TheVariants.{Blank, Head, Tail}
use Rattle.cell_grid.specs.Cells.{entry_cells, entries_cells, ColumnsFollow}
use Rattle.cell_grid.specs.Laws.{IsCellOf}
use Rattle.cell_grid.proofs.Sides.{length-entry_cells}
use Rattle.cell_grid.proofs.Lookups.{get-left, get-right, get-replicate}

-- a cell of entry n at this place of some cells
abbrev pub HasCell : List Cell → (k n : ℕ) → Type 0
HasCell cells k n = (c : Cell) × (slice_get cells k ≡ Some c) × IsCellOf n c

entry-has : (number n k : ℕ) → k < n → HasCell (entry_cells number n) k number
entry-has number zero k lt = absurd (omega arith)
entry-has number (suc n) zero lt = (Head number, refl, refl)
entry-has number (suc n) (suc k) lt = (Tail number, get-replicate n k (Tail number) (omega arith), refl)

entry-shape : (number n k : ℕ) (c : Cell) → k < n → slice_get (entry_cells number n) k ≡ Some c → ((c ≡ Head number) × (k ≡ 0)) ⊎ ((c ≡ Tail number) × (0 < k))
entry-shape number zero k c lt e = absurd (omega arith)
entry-shape number (suc n) zero c lt e = let is : c ≡ Head number = cc in inl (is, refl)
entry-shape number (suc n) (suc k) c lt e = let at = get-replicate n k (Tail number) (omega arith) in let is : c ≡ Tail number = cc in inr (is, omega arith)

-- the cells of an entry stand where it says
pub covered-from : (number start : ℕ) (es : List Entry) (to : ℕ) → ColumnsFollow start es to → (n column : ℕ) (e : Entry) → slice_get es n ≡ Some e → e.column ≤ column → column < e.column + e.columns
    → (start ≤ column) × HasCell (entries_cells number es) (column - start) (number + n)
covered-from number start [] to f n column e is low high = cc
covered-from number start (x ∷ es) to f zero column e is low high =
    let same : x ≡ e = cc in
    let at = ap (λ (y : Entry). y.column) same in
    let wide = ap (λ (y : Entry). y.columns) same in
    let first = f.0 in
    let k : column - start < x.columns = omega arith in
    let here = entry-has number x.columns (column - start) k in
    let len = length-entry_cells number x.columns in (
      omega arith,
      (
        here.0,
        get-left (entry_cells number x.columns) (entries_cells (number + 1) es) (column - start) (omega arith) ∙ here.1,
        (let e : number ≡ number + 0 = omega arith in subst (λ j. IsCellOf j here.0) e here.2),
      ),
    )
covered-from number start (x ∷ es) to f (suc n) column e is low high =
    let first = f.0 in
    let h = covered-from (number + 1) (x.column + x.columns) es to f.1 n column e is low high in
    let le = h.0 in
    let k : column - start ≡ x.columns + (column - (x.column + x.columns)) = omega arith in
    let m : number + 1 + n ≡ number + suc n = omega arith in (
      omega arith,
      (
        h.1.0,
        ap (slice_get (entry_cells number x.columns ++ entries_cells (number + 1) es)) k
            ∙ get-right (entry_cells number x.columns) (entries_cells (number + 1) es) x.columns (column - (x.column + x.columns)) (length-entry_cells number x.columns) ∙ h.1.1,
        subst (λ j. IsCellOf j h.1.0) m h.1.2,
      ),
    )

-- a cell is that of an entry, of which the first has this number
abbrev pub IsSeenFrom : List Entry → (number column : ℕ) → Cell → Type 0
IsSeenFrom es number column Blank = ⊥
IsSeenFrom es number column (Head m) = (n : ℕ) × (e : Entry) × (m ≡ number + n) × (slice_get es n ≡ Some e) × (e.column ≡ column) × (0 < e.columns)
IsSeenFrom es number column (Tail m) = (n : ℕ) × (e : Entry) × (m ≡ number + n) × (slice_get es n ≡ Some e) × (e.column < column) × (column < e.column + e.columns)

lift-seen : (x : Entry) (es : List Entry) (number column : ℕ) (c : Cell) → IsSeenFrom es (number + 1) column c → IsSeenFrom (x ∷ es) number column c
lift-seen x es number column Blank h = h
lift-seen x es number column (Head m) h = let is = h.2 in (suc h.0, h.1, omega arith, h.3, h.4, h.5)
lift-seen x es number column (Tail m) h = let is = h.2 in (suc h.0, h.1, omega arith, h.3, h.4, h.5)

pub seen-from : (number start : ℕ) (es : List Entry) (to : ℕ) → ColumnsFollow start es to → (k : ℕ) (c : Cell) → slice_get (entries_cells number es) k ≡ Some c → IsSeenFrom es number (start + k) c
seen-from number start [] to f k c is = cc
seen-from number start (x ∷ es) to f k c is =
    let own = entry_cells number x.columns in
    let later = entries_cells (number + 1) es in
    let len = length-entry_cells number x.columns in
    let first = f.0 in
    elim (leb_tells (suc k) x.columns) [
      | inl within ↦
          let lt = within.1 in
          let at = sym (get-left own later k (omega arith)) ∙ is in
          elim (entry-shape number x.columns k c (omega arith) at) [
            | inl head ↦
                let z = head.1 in
                subst (IsSeenFrom (x ∷ es) number (start + k)) (sym head.0) (0, x, omega arith, refl, omega arith, omega arith)
            | inr tail ↦
                let some = tail.1 in
                subst (IsSeenFrom (x ∷ es) number (start + k)) (sym tail.0) (0, x, omega arith, refl, omega arith, omega arith)
          ]
      | inr behind ↦
          let ge = behind.1 in
          let split : x.columns + (k - x.columns) ≡ k = omega arith in
          let at = sym (get-right own later x.columns (k - x.columns) len) ∙ ap (slice_get (own ++ later)) split ∙ is in
          let column : x.column + x.columns + (k - x.columns) ≡ start + k = omega arith in
          subst (λ j. IsSeenFrom (x ∷ es) number j c) column
          (lift-seen x es number (x.column + x.columns + (k - x.columns)) c (seen-from (number + 1) (x.column + x.columns) es to f.1 (k - x.columns) c at))
    ]
