-- A stretch of rows that has a window.
use Rattle.std.proofs.Common.{◌≡◌, ℕ, ◌+◌, ◌-◌, ◌<◌, ◌≤◌, ◌⊎◌, min, true, false, List, [], ◌∷◌, ◌++◌, length, get_or, take, drop, slice_range, All, Some, inl, inr, sym, ap, ◌∙◌, arith, length-append}
use Rattle.std.specs.Prelude.{nat_le, slice_get}
use Rattle.std.specs.Option.{option_map_or}
use Rattle.std.proofs.lemmas.List.{length-drop, take-append-le, drop-append-le, get_or_append_left, get_or-append-add}
use Rattle.std.proofs.lemmas.List.Elements.{All-nil, All-cons}
use Rattle.std.proofs.lemmas.Bool.{lt-leb}
use Rattle.std.proofs.lemmas.Option.{slice_get-get_or}
use Rattle.std.proofs.Math.Seq.{drop-append-add}
use Rattle.cell_grid.specs.Rows.{DrawnRow}
use Rattle.cell_grid.specs.Laws.{RowsFollow}
use Rattle.cell_grid.specs.Windows.{begins_by, row_at, DrawnWindow, window_of, HasWindow}
use Rattle.cell_grid.proofs.LastBelow.{last_below-past, last_below-behind, last_below-within}

-- an element of a list of three parts, from the second and from the third
pub slice_get-second : {A : Type 0} (xs ys zs : List A) (k : ℕ) (d : A) → k < length ys → slice_get (xs ++ (ys ++ zs)) (length xs + k) ≡ slice_get ys k
slice_get-second xs ys zs k d within =
    let a = length-append xs (ys ++ zs) in
    let b = length-append ys zs in
    slice_get-get_or (xs ++ (ys ++ zs)) (length xs + k) d (omega arith)
    ∙ ap (λ x. Some x) (get_or-append-add xs (ys ++ zs) k d ∙ get_or_append_left ys zs d k within)
    ∙ sym (slice_get-get_or ys k d within)

slice_get-third : {A : Type 0} (xs ys zs : List A) (k : ℕ) (d : A) → k < length zs → slice_get (xs ++ (ys ++ zs)) (length xs + (length ys + k)) ≡ Some (get_or zs k d)
slice_get-third xs ys zs k d within =
    let a = length-append xs (ys ++ zs) in
    let b = length-append ys zs in
    slice_get-get_or (xs ++ (ys ++ zs)) (length xs + (length ys + k)) d (omega arith)
    ∙ ap (λ x. Some x) (get_or-append-add xs (ys ++ zs) (length ys + k) d ∙ get_or-append-add ys zs k d)

-- a stretch within the second part
slice-second : {A : Type 0} (xs ys zs : List A) (a b : ℕ) → a ≤ length ys → b ≤ length ys → slice_range (xs ++ (ys ++ zs)) (length xs + a) (length xs + b) ≡ slice_range ys a b
slice-second xs ys zs a b from to =
    let n : (length xs + b) - (length xs + a) ≡ b - a = omega arith in
    let left = length-drop a ys in
    ap (λ m. take m (drop (length xs + a) (xs ++ (ys ++ zs)))) n
    ∙ ap (take (b - a)) (drop-append-add xs (ys ++ zs) a ∙ drop-append-le a ys zs from)
    ∙ take-append-le (b - a) (drop a ys) zs (omega arith)

module _ (xs ys zs : List DrawnRow) (p : ℕ) (begun : begins_by ys p 0 ≡ true) (past : All (λ (r : DrawnRow). p < r.first_place) zs) where
  some-rows : 0 < length ys
  some-rows = some ys begun
    where
      some : (rows : List DrawnRow) → begins_by rows p 0 ≡ true → 0 < length rows
      some [] h = cc
      some (r ∷ rows) h = omega arith

  a_row : DrawnRow
  a_row = record { first_place = 0; last_place = 0; para_level = 0; entries = []; cells = [] }

  -- no row of the third part begins by p
  none-third : (k : ℕ) → length xs + length ys ≤ k → k < length (xs ++ (ys ++ zs)) → begins_by (xs ++ (ys ++ zs)) p k ≡ false
  unfolding a_row
  none-third k from to =
      let a = length-append xs (ys ++ zs) in
      let b = length-append ys zs in
      let j = k - (length xs + length ys) in
      let at : k ≡ length xs + (length ys + j) = omega arith in
      let within : j < length zs = omega arith in
      ap (begins_by (xs ++ (ys ++ zs)) p) at
      ∙ ap (λ o. option_map_or (λ (r : DrawnRow). nat_le r.first_place p) o false) (slice_get-third xs ys zs j a_row within)
      ∙ lt-leb _ _ (past j a_row within)

  -- the row of p is in the second part
  pub row_at-second : row_at (xs ++ (ys ++ zs)) p ≡ length xs + row_at ys p
  unfolding a_row
  row_at-second =
      let all = xs ++ (ys ++ zs) in
      let a = length-append xs (ys ++ zs) in
      let b = length-append ys zs in
      last_below-past (begins_by all p) (length xs + length ys) (length all) (omega arith) none-third
      ∙ last_below-behind (begins_by all p) (begins_by ys p) (length xs) (length ys)
      (λ k within. ap (λ o. option_map_or (λ (r : DrawnRow). nat_le r.first_place p) o false) (slice_get-second xs ys zs k a_row within)) some-rows begun

  pub row_at-within : row_at ys p < length ys
  row_at-within = last_below-within (begins_by ys p) (length ys) some-rows

-- the numbers of a window's rows, in the whole list and in its second part
from-second : (x i j above : ℕ) → i ≡ x + j → (above ≤ j) ⊎ (x ≡ 0) → i - above ≡ x + (j - above)
from-second x i j above is enough = elim enough [ inl up ↦ omega arith | inr none ↦ omega arith ]

to-second : (x y z i j below all : ℕ) → i ≡ x + j → j < y → all ≡ x + (y + z) → (j + below + 1 ≤ y) ⊎ (z ≡ 0) → min all (i + below + 1) ≡ x + min y (j + below + 1)
to-second x y z i j below all is within whole enough = elim enough [ inl down ↦ omega arith | inr none ↦ omega arith ]

pub window-second : (before rows after : List DrawnRow) (above below place : ℕ) → HasWindow before rows after above below place
    → window_of above below place (before ++ (rows ++ after)) ≡ window_of above below place rows
window-second before rows after above below place h =
    let all = before ++ (rows ++ after) in
    let i = row_at all place in
    let j = row_at rows place in
    let is = row_at-second before rows after place h.begun h.past in
    let within = row_at-within before rows after place h.begun h.past in
    let whole : length all ≡ length before + (length rows + length after) = length-append before (rows ++ after) ∙ ap (λ n. length before + n) (length-append rows after) in
    let up : (above ≤ j) ⊎ (length before ≡ 0) = elim h.up [ inl a ↦ inl a | inr b ↦ inr (ap length b) ] in
    let down : (j + below + 1 ≤ length rows) ⊎ (length after ≡ 0) = elim h.down [ inl a ↦ inl a | inr b ↦ inr (ap length b) ] in
    let from = from-second (length before) i j above is up in
    let to = to-second (length before) (length rows) (length after) i j below (length all) is within whole down in
    let number : i - (i - above) ≡ j - (j - above) = omega arith in
    let make : List DrawnRow → ℕ → DrawnWindow = λ rows n. record { rows = rows; number = n } in
    ap (λ l. make l (i - (i - above)))
    (ap (λ n. slice_range all n (min (length all) (i + below + 1))) from
    ∙ ap (λ n. slice_range all (length before + (j - above)) n) to
    ∙ slice-second before rows after (j - above) (min (length rows) (j + below + 1)) (omega arith) (omega arith))
    ∙ ap (make (slice_range rows (j - above) (min (length rows) (j + below + 1)))) number

-- rows that follow from behind a place begin behind it
pub past-follow : (place from to : ℕ) (rows : List DrawnRow) → RowsFollow from rows to → place < from → All (λ (r : DrawnRow). place < r.first_place) rows
past-follow place from to [] follow lt = All-nil (λ (r : DrawnRow). place < r.first_place)
past-follow place from to (r ∷ rows) follow lt =
    let first = follow.0 in
    let order = follow.1 in
    All-cons (λ (s : DrawnRow). place < s.first_place) r rows (omega arith) (past-follow place r.last_place to rows follow.2 (omega arith))
