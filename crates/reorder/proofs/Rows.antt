-- Rows of places before one, and what none of some classes is.
use Rattle.std.proofs.Common.{ℕ, zero, suc, ◌≡◌, ◌+◌, ◌-◌, ◌<◌, ◌≤◌, ap, sym, subst, ◌∙◌, List, [], ◌∷◌, ◌++◌, length, get_or, set, take, drop, replicate, slice_range, Bool, false, ⊎_elim, length-drop, arith}
use Rattle.std.specs.List.{list_any}
use Rattle.std.proofs.lemmas.Bool.{cases_lt, or_parts}
use Rattle.std.proofs.lemmas.List.{take_more, get_or-take, get_or-drop, length-take-le, set_at, append_assoc}

-- a row of places and the one right before it
pub rows-joined : (P : ℕ → Type 0) (first seam end : ℕ) → ((k : ℕ) → first ≤ k → k < seam → P k) → ((k : ℕ) → seam ≤ k → k < end → P k)
    → (k : ℕ) → first ≤ k → k < end → P k
rows-joined P first seam end before behind k from to = ⊎_elim (λ lt. before k from lt) (λ le. behind k le to) (cases_lt k seam)

-- one place more
pub row-before : (P : ℕ → Type 0) (start end : ℕ) → 0 < start → P (start - 1) → ((k : ℕ) → start ≤ k → k < end → P k)
    → (k : ℕ) → start - 1 ≤ k → k < end → P k
row-before P start end some here behind =
    rows-joined P (start - 1) start end (λ k from to. let at : start - 1 ≡ k = omega arith in subst P at here) behind

-- one place more that is given what those behind it have
pub put-before : {X : Type 0} (old xs : List X) (start end : ℕ) (y : X) → 0 < start → start ≤ end → end ≤ length old
    → xs ≡ take start old ++ replicate (end - start) y ++ drop end old
    → set xs (start - 1) y ≡ take (start - 1) old ++ replicate (end - (start - 1)) y ++ drop end old
put-before [] xs start end y some order within so_far = absurd (omega arith)
put-before (o ∷ old) xs start end y some order within so_far =
    let k = start - 1 in
    let all = o ∷ old in
    let up : start ≡ (start - 1) + 1 = omega arith in
    let more : end - (start - 1) ≡ suc (end - start) = omega arith in
    let rest = replicate (end - start) y ++ drop end all in
    ap (λ l. set l k y)
    (so_far ∙ append_assoc (take start all) (replicate (end - start) y) (drop end all)
    ∙ ap (λ n. take n all ++ rest) up ∙ ap (λ l. l ++ rest) (take_more all k o (omega arith)) ∙ append_assoc (take k all) (get_or all k o ∷ []) rest)
    ∙ set_at (take k all) (get_or all k o) rest y k (length-take-le k all (omega arith))
    ∙ sym (append_assoc (take k all) (replicate (suc (end - start)) y) (drop end all))
    ∙ ap (λ n. take k all ++ replicate n y ++ drop end all) (sym more)

module _ {X : Type 0} (p : X → Bool) where
  none-at : (xs : List X) (i : ℕ) (d : X) → i < length xs → list_any p xs ≡ false → p (get_or xs i d) ≡ false
  none-at [] i d lt e = absurd (omega arith)
  none-at (x ∷ xs) zero d lt e = (or_parts (p x) (list_any p xs) e).0
  none-at (x ∷ xs) (suc i) d lt e = none-at xs i d (omega arith) (or_parts (p x) (list_any p xs) e).1

  -- none of a part of a list passes
  pub none-between : (xs : List X) (d : X) (first end : ℕ) → end ≤ length xs → list_any p (slice_range xs first end) ≡ false
      → (k : ℕ) → first ≤ k → k < end → p (get_or xs k d) ≡ false
  none-between xs d first end within none k from to =
      let lt : k - first < end - first = omega arith in
      let at : first + (k - first) ≡ k = omega arith in
      let long = length-take-le (end - first) (drop first xs) (omega (arith, length-drop first xs)) in
      ap p (ap (λ i. get_or xs i d) (sym at) ∙ sym (get_or-drop first xs (k - first) d) ∙ sym (get_or-take (end - first) (drop first xs) (k - first) d lt))
      ∙ none-at (slice_range xs first end) (k - first) d (omega (arith, long)) none
