-- The cells of a row by its entries.
use Rattle.std.proofs.Common.{◌≡◌, ℕ, zero, suc, ◌+◌, ◌-◌, ◌<◌, ◌≤◌, List, [], ◌∷◌, ◌++◌, map, length, drop, replicate, slice_get, Some, None, refl, sym, ap, subst, ◌∙◌, arith, inl, inr, length-append}
use Rattle.std.proofs.lemmas.List.{length-replicate, length-map}
use Rattle.std.proofs.lemmas.Bool.Decides.{leb_tells}
use Rattle.std.proofs.lemmas.Option.{get_or_from_slice_get, slice_get_within}
use Rattle.cell_grid.specs.declared.entry.Entry.{Entry}
use Rattle.cell_grid.specs.declared.cell.Cell.{Cell}
use Rattle.cell_grid.specs.declared.cell.Cell.TheVariants.{Blank, Head, Tail}
use Rattle.cell_grid.specs.Cells.{entry_cells, entries_cells, cells_of, ColumnsFollow, total, StandWithin, IsSeenAt}
use Rattle.cell_grid.specs.Rows.{DrawnRow, shifted, shifted_entry}
use Rattle.cell_grid.specs.Laws.{IsCellOf}
use Rattle.cell_grid.proofs.Steps.{drop-next}
use Rattle.cell_grid.proofs.Sides.{length-entries_cells, same_follow, follow-shifted, total-shifted}
use Rattle.cell_grid.proofs.Lookups.{get-left, get-right, get-replicate}
use Rattle.cell_grid.proofs.Covering.{HasCell, IsSeenFrom, covered-from, seen-from}

get-some : {X : Type 0} (xs : List X) (k : ℕ) → k < length xs → (x : X) × (slice_get xs k ≡ Some x)
get-some [] k lt = absurd (omega arith)
get-some (x ∷ xs) zero lt = (x, refl)
get-some (x ∷ xs) (suc k) lt = get-some xs k (omega arith)

-- ---- entries by their columns

pub from-at : (from to : ℕ) (es : List Entry) → ColumnsFollow from es to → (n : ℕ) (e : Entry) → slice_get es n ≡ Some e → from ≤ e.column
from-at from to [] f n e is = cc
from-at from to (x ∷ es) f zero e is = let same : x ≡ e = cc in let at = ap (λ (y : Entry). y.column) same in let first = f.0 in omega arith
from-at from to (x ∷ es) f (suc n) e is = let later = from-at (x.column + x.columns) to es f.1 n e is in let first = f.0 in omega arith

-- ---- cells

module _ (entries : List Entry) (start width : ℕ) (f : ColumnsFollow start entries (start + total entries)) (fits : start + total entries ≤ width) where
  pub length-cells : length (cells_of width start entries) ≡ width
  length-cells =
      let E = entries_cells 0 entries in
      let B = replicate (width - (start + length E)) Blank in
      let a = length-append (replicate start Blank) (E ++ B) in
      let b = length-append E B in
      let c = length-replicate start Blank in
      let d = length-replicate (width - (start + length E)) Blank in
      let t = length-entries_cells 0 entries in
      omega arith

  pub covered : (n column : ℕ) (e : Entry) → slice_get entries n ≡ Some e → e.column ≤ column → column < e.column + e.columns → HasCell (cells_of width start entries) column n
  covered n column e is low high =
      let E = entries_cells 0 entries in
      let B = replicate (width - (start + length E)) Blank in
      let h = covered-from 0 start entries (start + total entries) f n column e is low high in
      let le = h.0 in
      let k : start + (column - start) ≡ column = omega arith in
      let inside = slice_get_within E (column - start) h.1.0 h.1.1 in
      let m : 0 + n ≡ n = omega arith in (
        h.1.0,
        ap (slice_get (replicate start Blank ++ (E ++ B))) (sym k)
            ∙ get-right (replicate start Blank) (E ++ B) start (column - start) (length-replicate start Blank)
            ∙ get-left E B (column - start) inside ∙ h.1.1,
        subst (λ j. IsCellOf j h.1.0) m h.1.2,
      )

  blank-free : (column : ℕ) → slice_get (cells_of width start entries) column ≡ Some Blank → IsSeenAt entries column Blank
  blank-free column is n e at low high = let h = covered n column e at low high in let c : h.0 ≡ Blank = cc in subst (IsCellOf n) c h.2

  found : (column : ℕ) (c : Cell) → slice_get (cells_of width start entries) column ≡ Some c → IsSeenFrom entries 0 column c → IsSeenAt entries column c
  found column Blank is h = absurd h
  found column (Head m) is h = let n : h.0 ≡ m = (let e = h.2 in omega arith) in (h.1, ap (slice_get entries) (sym n) ∙ h.3, h.4, h.5)
  found column (Tail m) is h = let n : h.0 ≡ m = (let e = h.2 in omega arith) in (h.1, ap (slice_get entries) (sym n) ∙ h.3, h.4, h.5)

  blank : (column : ℕ) (c : Cell) → slice_get (cells_of width start entries) column ≡ Some c → c ≡ Blank → IsSeenAt entries column c
  blank column c is e = subst (IsSeenAt entries column) (sym e) (blank-free column (is ∙ ap Some e))

  pub seen : (column : ℕ) (c : Cell) → slice_get (cells_of width start entries) column ≡ Some c → IsSeenAt entries column c
  seen column c is =
      let E = entries_cells 0 entries in
      let B = replicate (width - (start + length E)) Blank in
      let S = replicate start Blank in
      let ls = length-replicate start Blank in
      elim (leb_tells (suc column) start) [
        | inl before ↦
            let lt = before.1 in
            let at = sym (get-left S (E ++ B) column (omega arith)) ∙ is in
            let put = get-replicate start column Blank (omega arith) in
            let same : c ≡ Blank = cc in
            blank column c is same
        | inr behind ↦
            let ge = behind.1 in
            let split : start + (column - start) ≡ column = omega arith in
            let at = sym (get-right S (E ++ B) start (column - start) ls) ∙ ap (slice_get (S ++ (E ++ B))) split ∙ is in
            elim (leb_tells (suc (column - start)) (length E)) [
              | inl within ↦
                  let lt = within.1 in
                  let own = sym (get-left E B (column - start) (omega arith)) ∙ at in
                  found column c is (subst (λ j. IsSeenFrom entries 0 j c) split (seen-from 0 start entries (start + total entries) f (column - start) c own))
              | inr past ↦
                  let le = past.1 in
                  let part : length E + (column - start - length E) ≡ column - start = omega arith in
                  let last = sym (get-right E B (length E) (column - start - length E) refl) ∙ ap (slice_get (E ++ B)) part ∙ at in
                  let inside = slice_get_within B (column - start - length E) c last in
                  let lb = length-replicate (width - (start + length E)) Blank in
                  let put = get-replicate (width - (start + length E)) (column - start - length E) Blank (omega arith) in
                  let same : c ≡ Blank = cc in
                  blank column c is same
            ]
      ]

pub cells-shifted : (i j number : ℕ) (es : List Entry) → entries_cells number (map (shifted_entry i j) es) ≡ entries_cells number es
cells-shifted i j number [] = refl
cells-shifted i j number (e ∷ es) = ap (λ l. entry_cells number e.columns ++ l) (cells-shifted i j (number + 1) es)

pub cells_of-shifted : (width start i j : ℕ) (es : List Entry) → cells_of width start (map (shifted_entry i j) es) ≡ cells_of width start es
cells_of-shifted width start i j es =
    ap (λ taken. replicate start Blank ++ (taken ++ replicate (width - (start + length taken)) Blank)) (cells-shifted i j 0 es)

module _ (entries : List Entry) (start width : ℕ) (f : ColumnsFollow start entries (start + total entries)) (fits : start + total entries ≤ width) where
  blank-is : (column : ℕ) (c : Cell) → slice_get (cells_of width start entries) column ≡ Some c → IsSeenAt entries column c → IsSeenAt entries column Blank → c ≡ Blank
  blank-is column Blank is at free = refl
  blank-is column (Head n) is at free = let here = at.2 in let some = at.3 in absurd (free n at.0 at.1 (omega arith) (omega arith))
  blank-is column (Tail n) is at free = let behind = at.2 in absurd (free n at.0 at.1 (omega arith) at.3)

  head-is : (column n : ℕ) (e : Entry) (c : Cell) → IsSeenAt entries column c → IsCellOf n c → slice_get entries n ≡ Some e → e.column ≡ column → c ≡ Head n
  head-is column n e Blank at own is here = absurd own
  head-is column n e (Head m) at own is here = ap Head own
  head-is column n e (Tail m) at own is here =
      let there : slice_get entries n ≡ Some at.0 = ap (slice_get entries) (sym own) ∙ at.1 in
      let same : e ≡ at.0 = cc in
      let place = ap (λ (x : Entry). x.column) same in
      let behind = at.2 in
      absurd (omega arith)

  tail-is : (column n : ℕ) (e : Entry) (c : Cell) → IsSeenAt entries column c → IsCellOf n c → slice_get entries n ≡ Some e → e.column < column → c ≡ Tail n
  tail-is column n e Blank at own is here = absurd own
  tail-is column n e (Tail m) at own is here = ap Tail own
  tail-is column n e (Head m) at own is here =
      let there : slice_get entries n ≡ Some at.0 = ap (slice_get entries) (sym own) ∙ at.1 in
      let same : e ≡ at.0 = cc in
      let place = ap (λ (x : Entry). x.column) same in
      let first = at.2 in
      absurd (omega arith)

  -- what is seen in a column is its cell
  pub seen-is : (column : ℕ) (c : Cell) → column < width → IsSeenAt entries column c → Some c ≡ slice_get (cells_of width start entries) column
  seen-is column Blank lt at =
      let cells = cells_of width start entries in
      let len = length-cells entries start width f fits in
      let own = get-some cells column (omega arith) in
      sym (own.1 ∙ ap Some (blank-is column own.0 own.1 (seen entries start width f fits column own.0 own.1) at))
  seen-is column (Head n) lt at =
      let here = at.2 in
      let some = at.3 in
      let h = covered entries start width f fits n column at.0 at.1 (omega arith) (omega arith) in
      sym (h.1 ∙ ap Some (head-is column n at.0 h.0 (seen entries start width f fits column h.0 h.1) h.2 at.1 here))
  seen-is column (Tail n) lt at =
      let behind = at.2 in
      let h = covered entries start width f fits n column at.0 at.1 (omega arith) at.3 in
      sym (h.1 ∙ ap Some (tail-is column n at.0 h.0 (seen entries start width f fits column h.0 h.1) h.2 at.1 behind))

-- the rest from an element on begins with it
pub drop-get : {X : Type 0} (xs : List X) (k : ℕ) (x : X) → slice_get xs k ≡ Some x → drop k xs ≡ x ∷ drop (k + 1) xs
drop-get xs k x is = drop-next xs k x x (slice_get_within xs k x is) (sym (get_or_from_slice_get xs k x x is))

-- no cell stands after the width
pub none-behind : {X : Type 0} (xs : List X) (k : ℕ) → length xs ≤ k → None ≡ slice_get xs k
none-behind [] k le = refl
none-behind (x ∷ xs) zero le = absurd (omega arith)
none-behind (x ∷ xs) (suc k) le = none-behind xs k (omega arith)

-- ---- rows that are shifted

-- a row by what it keeps
abbrev pub row_by : (width start first last level : ℕ) → List Entry → DrawnRow
row_by width start first last level es = record { first_place = first; last_place = last; para_level = level; entries = es; cells = cells_of width start es }

pub row_by-shifted : (width start first last level i j : ℕ) (es : List Entry)
    → row_by width start (first + j) (last + j) level (map (shifted_entry i j) es) ≡ shifted i j (row_by width start first last level es)
row_by-shifted width start first last level i j es =
    ap (λ (cells : List Cell). record { first_place = first + j; last_place = last + j; para_level = level; entries = map (shifted_entry i j) es; cells = cells })
    (cells_of-shifted width start i j es)

pub StandWithin-shifted : (width start i j : ℕ) (es : List Entry) → StandWithin width start es → StandWithin width start (map (shifted_entry i j) es)
StandWithin-shifted width start i j es h =
    let wide = total-shifted i j es in
    let n = length-map es (shifted_entry i j) in
    let fits = h.fits in
    let few = h.count in
    let end : start + total es ≡ start + total (map (shifted_entry i j) es) = omega arith in
    record {
      follow = same_follow start (map (shifted_entry i j) es) _ _ end (follow-shifted i j es start (start + total es) h.follow);
      fits = omega arith;
      count = omega arith;
    }
