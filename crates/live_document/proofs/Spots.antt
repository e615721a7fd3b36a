-- Rows are read one after the other.
use Rattle.std.proofs.Common.{◌≡◌, ℕ, zero, suc, ◌+◌, ◌-◌, ◌<◌, ◌≤◌, List, [], ◌∷◌, ◌++◌, length, map, take, drop, Some, refl, sym, ap, ◌∙◌, arith, length-append, inl, inr}
use Rattle.std.proofs.lemmas.Bool.{cases_lt}
use Rattle.std.proofs.lemmas.List.{length-map, length-drop, length-take-le, drop-drop}
use Rattle.std.proofs.lemmas.Option.{same_Some, slice_get_past}
use Rattle.std.proofs.Math.Seq.{drop-append-add}
use Rattle.std.specs.Prelude.{slice_get}
use Rattle.cell_grid.specs.Rows.{DrawnRow, shifted}
use Rattle.text_buffer.specs.Buffers.{bytes_in, text_in}
use Rattle.live_document.specs.Keeping.{KeptText, rows_at}
use Rattle.live_document.specs.Showing.{rows_from}
use Rattle.live_document.proofs.Stretches.{rows_from-next, rows_from-none}

-- a row stands in a paragraph
pub spot-within : (kept : KeptText) (n row : ℕ) → row < length (rows_from kept n) → n < length kept
spot-within kept n row some = elim (cases_lt n (length kept)) [
  | inl here ↦ here
  | inr past ↦ absurd (let e = ap length (rows_from-none kept n past) in omega arith)
]

pub record IsNext (kept : KeptText) (n row : ℕ) : Type 0 where
  pub there : n + 1 < length kept
  pub inside : row - length (rows_at kept n) < length (rows_from kept (n + 1))
  pub same : drop (row - length (rows_at kept n)) (rows_from kept (n + 1)) ≡ drop row (rows_from kept n)

-- one that is not among those of the paragraph stands behind it
pub spot-next : (kept : KeptText) (n row : ℕ) → n < length kept → length (rows_at kept n) ≤ row → row < length (rows_from kept n) → IsNext kept n row
spot-next kept n row here past inside =
    let f = shifted (bytes_in (text_in (take n kept))) (length (text_in (take n kept))) in
    let e = rows_from-next kept n here in
    let size = ap length e ∙ length-append (map f (rows_at kept n)) (rows_from kept (n + 1)) in
    let own = length-map (rows_at kept n) f in
    let left : row - length (rows_at kept n) < length (rows_from kept (n + 1)) = omega arith in
    let at : row ≡ length (map f (rows_at kept n)) + (row - length (rows_at kept n)) = omega arith in
    record {
      there = spot-within kept (n + 1) (row - length (rows_at kept n)) left;
      inside = left;
      same = sym (ap (λ m. drop m (rows_from kept n)) at ∙ ap (drop (length (map f (rows_at kept n)) + (row - length (rows_at kept n)))) e
          ∙ drop-append-add (map f (rows_at kept n)) (rows_from kept (n + 1)) (row - length (rows_at kept n)));
    }

get-shifted : {X Y : Type 0} (f : X → Y) (xs : List X) (ys : List Y) (k : ℕ) (x : X) → slice_get xs k ≡ Some x → slice_get (map f xs ++ ys) k ≡ Some (f x)
get-shifted f [] ys k x h = cc
get-shifted f (z ∷ xs) ys zero x h = ap (λ y. Some (f y)) (same_Some z x h)
get-shifted f (z ∷ xs) ys (suc k) x h = get-shifted f xs ys k x h

-- a row of a paragraph, where it stands in the text
pub row-there : (kept : KeptText) (n k : ℕ) (row : DrawnRow) → n < length kept → slice_get (rows_at kept n) k ≡ Some row
    → slice_get (rows_from kept n) k ≡ Some (shifted (bytes_in (text_in (take n kept))) (length (text_in (take n kept))) row)
row-there kept n k row here is =
    let f = shifted (bytes_in (text_in (take n kept))) (length (text_in (take n kept))) in
    ap (λ l. slice_get l k) (rows_from-next kept n here) ∙ get-shifted f (rows_at kept n) (rows_from kept (n + 1)) k row is

-- the first of those that are left
pub take-first : {X : Type 0} (xs : List X) (k left : ℕ) (x : X) → slice_get xs k ≡ Some x → 0 < left → take left (drop k xs) ≡ x ∷ take (left - 1) (drop (k + 1) xs)
take-first [] k left x h some = cc
take-first (z ∷ xs) zero zero x h some = absurd (omega arith)
take-first (z ∷ xs) zero (suc n) x h some = let e : n ≡ suc n - 1 = omega arith in ap (λ y. y ∷ take n xs) (same_Some z x h) ∙ ap (λ m. x ∷ take m xs) e
take-first (z ∷ xs) (suc k) left x h some =
    let e : suc (k + 1) ≡ suc k + 1 = omega arith in take-first xs k left x h some ∙ ap (λ m. x ∷ take (left - 1) (drop m (z ∷ xs))) e

-- ---- a row by its number behind another one

-- rows that are the same from a row on are so from a later one on
pub further-same : {X : Type 0} (xs ys : List X) (m n k : ℕ) → drop m xs ≡ drop n ys → drop (m + k) xs ≡ drop (n + k) ys
further-same xs ys m n k same = sym (drop-drop k m xs) ∙ ap (drop k) same ∙ drop-drop k n ys

get-take : {X : Type 0} (n k : ℕ) (l : List X) → k < n → slice_get (take n l) k ≡ slice_get l k
get-take zero k l lt = absurd (omega arith)
get-take (suc n) k [] lt = refl
get-take (suc n) zero (x ∷ l) lt = refl
get-take (suc n) (suc k) (x ∷ l) lt = get-take n k l (omega arith)

get-drop : {X : Type 0} (n k : ℕ) (l : List X) → slice_get (drop n l) k ≡ slice_get l (n + k)
get-drop zero k l = let e : k ≡ 0 + k = omega arith in ap (slice_get l) e
get-drop (suc n) k [] = slice_get_past [] k (omega arith) ∙ sym (slice_get_past [] (suc n + k) (omega arith))
get-drop (suc n) k (x ∷ l) = let e : suc (n + k) ≡ suc n + k = omega arith in get-drop n k l ∙ ap (slice_get (x ∷ l)) e

get-next : {X : Type 0} (n : ℕ) (l : List X) → slice_get (drop n l) 0 ≡ slice_get l n
get-next n l = let e : n + 0 ≡ n = omega arith in get-drop n 0 l ∙ ap (slice_get l) e

-- the row that is next there is that of the window with this number
pub row-in_window : {X : Type 0} (xs ys : List X) (row skip count number : ℕ) → drop row xs ≡ drop (skip + number) ys → number < count
    → slice_get (take count (drop skip ys)) number ≡ slice_get xs row
row-in_window xs ys row skip count number same within =
    get-take count number (drop skip ys) within ∙ get-drop skip number ys
    ∙ sym (sym (get-next row xs) ∙ ap (λ l. slice_get l 0) same ∙ get-next (skip + number) ys)

-- a window has no more rows than it counts, and as many where they are there
pub window-size : {X : Type 0} (xs : List X) (skip count : ℕ) → skip + count ≤ length xs → length (take count (drop skip xs)) ≡ count
window-size xs skip count enough = let left = length-drop skip xs in length-take-le count (drop skip xs) (omega arith)
