-- The rows of a grid stand in the order of their places.
use Rattle.std.proofs.Common.{◌≡◌, ℕ, zero, suc, ◌+◌, ◌-◌, ◌<◌, ◌≤◌, true, false, List, [], ◌∷◌, length, get_or, Some, ap, sym, subst, ◌∙◌, inl, inr, arith}
use Rattle.std.specs.Prelude.{nat_le, slice_get}
use Rattle.std.specs.Option.{option_map_or}
use Rattle.std.specs.List.Sorted.{IsNonDecreasingBy, IsPartitionPoint}
use Rattle.std.proofs.lemmas.Option.{slice_get-get_or, slice_get_within}
use Rattle.std.proofs.lemmas.Bool.{leb-true, leb-false, le-leb, both_ways, cases_lt}
use Rattle.cell_grid.specs.Rows.{DrawnRow}
use Rattle.cell_grid.specs.Laws.{RowsFollow}
use Rattle.cell_grid.specs.Windows.{FirstPlacesRise}
use Rattle.caret.specs.Places.{begins_by, row_at}
use Rattle.cell_grid.proofs.Interface.{last_below-is, last_below-later, last_below-passes}

rises-first : (r : DrawnRow) (rows : List DrawnRow) (j : ℕ) (d : DrawnRow) → FirstPlacesRise (r ∷ rows) → j < length rows → r.first_place < (get_or rows j d).first_place
rises-first r [] j d h within = absurd (omega arith)
rises-first r (s ∷ later) zero d h within = h.0
rises-first r (s ∷ later) (suc j) d h within =
    let next = rises-first s later j d h.1 (omega arith) in
    let here = h.0 in
    omega arith

-- a later row begins later
pub rises-at : (rows : List DrawnRow) (i j : ℕ) (d : DrawnRow) → FirstPlacesRise rows → i < j → j < length rows → (get_or rows i d).first_place < (get_or rows j d).first_place
rises-at [] i j d h lt within = absurd (omega arith)
rises-at (r ∷ rows) i zero d h lt within = absurd (omega arith)
rises-at (r ∷ rows) zero (suc j) d h lt within = rises-first r rows j d h (omega arith)
rises-at (r ∷ []) (suc i) (suc j) d h lt within = absurd (omega arith)
rises-at (r ∷ s ∷ later) (suc i) (suc j) d h lt within = rises-at (s ∷ later) i j d h.1 (omega arith) (omega arith)

-- so first places never fall
pub rises-ordered : (rows : List DrawnRow) → FirstPlacesRise rows → IsNonDecreasingBy (λ (r : DrawnRow). r.first_place) rows
rises-ordered rows h i j d le within =
    elim (cases_lt i j) [
      | inl less ↦ let strict = rises-at rows i j d h less within in omega arith
      | inr same ↦ let e : i ≡ j = omega arith in let f = ap (λ k. (get_or rows k d).first_place) e in omega arith
    ]

pub begins_by-at : (rows : List DrawnRow) (p k : ℕ) (d : DrawnRow) → k < length rows → begins_by rows p k ≡ nat_le (get_or rows k d).first_place p
begins_by-at rows p k d within =
    ap (λ o. option_map_or (λ (row : DrawnRow). nat_le row.first_place p) o false) (slice_get-get_or rows k d within)

-- the rows before number i begin at p or before, the others after it
abbrev pub Splits : List DrawnRow → ℕ → ℕ → Type 0
Splits rows p i = IsPartitionPoint (λ (r : DrawnRow). nat_le r.first_place p ≡ true) (λ (r : DrawnRow). nat_le r.first_place p ≡ false) rows i

-- row 0 is among those before, where it begins by p
pub some-splits : (p i : ℕ) (rows : List DrawnRow) → begins_by rows p 0 ≡ true → Splits rows p i → 0 < i
some-splits p i [] begun splits = cc
some-splits p zero (r ∷ later) begun splits =
    let past : nat_le r.first_place p ≡ false = splits.1 0 r (omega arith) (omega arith) in
    absurd (both_ways (nat_le r.first_place p) past begun)
some-splits p (suc i) (r ∷ later) begun splits = omega arith

-- and the last of those before is the row of p
pub row_at-splits : (p i : ℕ) (rows : List DrawnRow) → begins_by rows p 0 ≡ true → i ≤ length rows → Splits rows p i → row_at rows p ≡ i - 1
row_at-splits p i [] begun within splits = cc
row_at-splits p i (r ∷ later) begun within splits =
    let first : 0 < i = some-splits p i (r ∷ later) begun splits in
    let rows = r ∷ later in
    last_below-is (begins_by rows p) (length rows) (i - 1) (omega arith)
    (begins_by-at rows p (i - 1) r (omega arith) ∙ splits.0 (i - 1) r (omega arith) (omega arith))
    (λ j above below. begins_by-at rows p j r below ∙ splits.1 j r (omega arith) below)

-- the last row ends where the rows end
last_place-last : (from to : ℕ) (rows : List DrawnRow) (k : ℕ) (row : DrawnRow) → RowsFollow from rows to → slice_get rows k ≡ Some row → k + 1 ≡ length rows → row.last_place ≡ to
last_place-last from to [] k row follow is last = absurd (omega arith)
last_place-last from to (r ∷ []) zero row follow is last = let same : r ≡ row = cc in ap (λ (x : DrawnRow). x.last_place) (sym same) ∙ follow.2
last_place-last from to (r ∷ s ∷ later) zero row follow is last = absurd (omega arith)
last_place-last from to (r ∷ later) (suc k) row follow is last = last_place-last r.last_place to later k row follow.2 is (omega arith)

-- each other one where the next one begins
last_place-next : (from to : ℕ) (rows : List DrawnRow) (k : ℕ) (row d : DrawnRow) → RowsFollow from rows to → slice_get rows k ≡ Some row → suc k < length rows → (get_or rows (suc k) d).first_place ≡ row.last_place
last_place-next from to [] k row d follow is next = absurd (omega arith)
last_place-next from to (r ∷ []) k row d follow is next = absurd (omega arith)
last_place-next from to (r ∷ s ∷ later) zero row d follow is next = let same : r ≡ row = cc in follow.2.0 ∙ ap (λ (x : DrawnRow). x.last_place) same
last_place-next from to (r ∷ s ∷ later) (suc k) row d follow is next = last_place-next r.last_place to (s ∷ later) k row d follow.2 is (omega arith)

-- and none begins after that end
first_place-to : (from to : ℕ) (rows : List DrawnRow) (k : ℕ) (d : DrawnRow) → RowsFollow from rows to → k < length rows → (get_or rows k d).first_place ≤ to
first_place-to from to [] k d follow within = absurd (omega arith)
first_place-to from to (r ∷ later) zero d follow within = omega (arith, follow.0, follow.1, upto later r.last_place follow.2)
  where
    upto : (rows : List DrawnRow) (start : ℕ) → RowsFollow start rows to → start ≤ to
    upto [] start rest = omega (arith, rest)
    upto (s ∷ rows) start rest = let more = upto rows s.last_place rest.2 in omega (arith, rest.0, rest.1, more)
first_place-to from to (r ∷ later) (suc k) d follow within = first_place-to r.last_place to later k d follow.2 (omega arith)

first_place-first : (to : ℕ) (rows : List DrawnRow) (d : DrawnRow) → RowsFollow 0 rows to → 0 < length rows → (get_or rows 0 d).first_place ≡ 0
first_place-first to [] d follow some = absurd (omega arith)
first_place-first to (r ∷ later) d follow some = follow.0

-- a row doesn't end before it begins
pub first_place-last_place : (from to : ℕ) (rows : List DrawnRow) (k : ℕ) (row : DrawnRow) → RowsFollow from rows to → slice_get rows k ≡ Some row → row.first_place ≤ row.last_place
first_place-last_place from to [] k row follow is = absurd (cc)
first_place-last_place from to (r ∷ later) zero row follow is =
    let same : r ≡ row = cc in subst (λ (x : DrawnRow). x.first_place ≤ x.last_place) same follow.1
first_place-last_place from to (r ∷ later) (suc k) row follow is = first_place-last_place r.last_place to later k row follow.2 is

-- row 0 of a grid begins by any place
pub begun-follow : (to p : ℕ) (rows : List DrawnRow) → RowsFollow 0 rows to → 0 < length rows → begins_by rows p 0 ≡ true
begun-follow to p [] follow some = absurd (omega arith)
begun-follow to p (r ∷ rows) follow some = le-leb r.first_place p (omega (arith, follow.0))

module _ (to p : ℕ) (rows : List DrawnRow) (row : DrawnRow) (follow : RowsFollow 0 rows to) (is : slice_get rows (row_at rows p) ≡ Some row) where
  -- the row of p is the last one, or the next one begins after p
  behind-row_at : suc (row_at rows p) < length rows → p < row.last_place
  behind-row_at next =
      let later = last_below-later (begins_by rows p) (length rows) (suc (row_at rows p)) (omega arith) next in
      let past : p < (get_or rows (suc (row_at rows p)) row).first_place =
      leb-false _ p (sym (begins_by-at rows p (suc (row_at rows p)) row next) ∙ later) in
      omega (arith, last_place-next 0 to rows (row_at rows p) row row follow is next)

  -- it begins at p or before
  pub first_place-row_at : 0 < length rows → row.first_place ≤ p
  first_place-row_at some =
      let first : begins_by rows p 0 ≡ true =
      begins_by-at rows p 0 row some ∙ le-leb (get_or rows 0 row).first_place p (omega (arith, first_place-first to rows row follow some)) in
      let here : nat_le row.first_place p ≡ true =
      sym (ap (λ o. option_map_or (λ (r : DrawnRow). nat_le r.first_place p) o false) is) ∙ last_below-passes (begins_by rows p) (length rows) first in
      leb-true row.first_place p here

  -- where p is a place of the text, it ends after p
  pub last_place-row_at : p < to → p < row.last_place
  last_place-row_at within =
      elim (cases_lt (suc (row_at rows p)) (length rows)) [
        | inl next ↦ behind-row_at next
        | inr last ↦
            let end = last_place-last 0 to rows (row_at rows p) row follow is (let in_rows = slice_get_within rows (row_at rows p) row is in omega arith) in
            omega arith
      ]

  -- the text's end is in the last row
  pub row_at-end : p ≡ to → row_at rows p + 1 ≡ length rows
  row_at-end end =
      elim (cases_lt (suc (row_at rows p)) (length rows)) [
        | inl next ↦
            let past = behind-row_at next in
            let start = last_place-next 0 to rows (row_at rows p) row row follow is next in
            let upto = first_place-to 0 to rows (suc (row_at rows p)) row follow next in
            absurd (omega arith)
        | inr last ↦ let in_rows = slice_get_within rows (row_at rows p) row is in omega arith
      ]

  -- the row of the text's end ends there
  pub last_place-at_end : p ≡ to → p ≡ row.last_place
  last_place-at_end end =
      elim (cases_lt (suc (row_at rows p)) (length rows)) [
        | inl next ↦
            let past = behind-row_at next in
            let start = last_place-next 0 to rows (row_at rows p) row row follow is next in
            let upto = first_place-to 0 to rows (suc (row_at rows p)) row follow next in
            absurd (omega arith)
        | inr last ↦ end ∙ sym (last_place-last 0 to rows (row_at rows p) row follow is (let within = slice_get_within rows (row_at rows p) row is in omega arith))
      ]

  -- and no other row ends at its place
  pub end-at_last_place : p ≡ row.last_place → p ≡ to
  end-at_last_place same =
      elim (cases_lt (suc (row_at rows p)) (length rows)) [
        | inl next ↦ absurd (omega (arith, behind-row_at next))
        | inr last ↦ same ∙ last_place-last 0 to rows (row_at rows p) row follow is (let within = slice_get_within rows (row_at rows p) row is in omega arith)
      ]
