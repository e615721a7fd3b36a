-- Rows, joined.
use Rattle.std.proofs.Common.{◌≡◌, ℕ, suc, ◌+◌, ◌-◌, ◌<◌, ◌≤◌, List, [], ◌∷◌, ◌++◌, length, take, drop, get_or, set, map, sym, ap, ap₂, ◌∙◌, add-one, arith}
use Rattle.std.proofs.lemmas.List.{append-nil, append_assoc, map-append, length-map, set-append_left, set-append_right, length-append, take-append-drop, take-append-le, drop-append-le, drop_more, drop-set-lt, take_at, take-take, take-set, length-take-le, length-set, get_or-set_same, get_or-append-add, take_more, take_more_set, set_split}
use Rattle.std.proofs.lemmas.List.Concat.{flat_map-append}
use Rattle.std.proofs.lemmas.List.Edits.{get_or-insert_below}
use Rattle.std.proofs.Math.Seq.{take-append-add, drop-append-add}
use Rattle.std.specs.List.{insert, remove}
use Rattle.text_buffer.specs.Blocks.{joined}

module _ {A : Type 0} where
  pub joined-append : (xs ys : List (List A)) → joined (xs ++ ys) ≡ joined xs ++ joined ys
  joined-append xs ys = flat_map-append (λ r. r) xs ys

  -- a row, and what stands on its two sides
  pub joined-at : (rows : List (List A)) (q : ℕ) → q < length rows → joined rows ≡ joined (take q rows) ++ (get_or rows q [] ++ joined (drop (q + 1) rows))
  joined-at rows q within =
      ap joined (sym (take-append-drop q rows)) ∙ joined-append (take q rows) (drop q rows)
      ∙ ap (λ t. joined (take q rows) ++ joined t) (drop_more rows q [] within)

  pub joined-more : (rows : List (List A)) (q : ℕ) → q < length rows → joined (take (q + 1) rows) ≡ joined (take q rows) ++ get_or rows q []
  joined-more rows q within =
      ap joined (take_more rows q [] within) ∙ joined-append (take q rows) (get_or rows q [] ∷ []) ∙ ap (λ t. joined (take q rows) ++ t) (append-nil (get_or rows q []))

  pub joined-set : (rows : List (List A)) (q : ℕ) (x : List A) → q < length rows → joined (set rows q x) ≡ joined (take q rows) ++ (x ++ joined (drop (q + 1) rows))
  joined-set rows q x within =
      ap joined (set_split rows q x within) ∙ joined-append (take q rows) (x ∷ drop (suc q) rows)
      ∙ ap (λ n. joined (take q rows) ++ (x ++ joined (drop n rows))) (sym (add-one q))

  -- the front of all up to somewhere in a row, and the rest from there
  front-in : (rows : List (List A)) (q n : ℕ) → q < length rows → n ≤ length (get_or rows q []) → take (length (joined (take q rows)) + n) (joined rows) ≡ joined (take q rows) ++ take n (get_or rows q [])
  front-in rows q n within inside =
      let a = joined (take q rows) in
      let r = get_or rows q [] in
      let c = joined (drop (q + 1) rows) in
      ap (take (length a + n)) (joined-at rows q within) ∙ take-append-add a (r ++ c) n ∙ ap (λ t. a ++ t) (take-append-le n r c inside)

  pub back-in : (rows : List (List A)) (q n : ℕ) → q < length rows → n ≤ length (get_or rows q []) → drop (length (joined (take q rows)) + n) (joined rows) ≡ drop n (get_or rows q []) ++ joined (drop (q + 1) rows)
  back-in rows q n within inside =
      let a = joined (take q rows) in
      let r = get_or rows q [] in
      let c = joined (drop (q + 1) rows) in
      ap (drop (length a + n)) (joined-at rows q within) ∙ drop-append-add a (r ++ c) n ∙ drop-append-le n r c inside

  -- others in the place of some of a row stand so among all
  pub joined-replaced : (rows : List (List A)) (q from to : ℕ) (x : List A) → q < length rows → from ≤ length (get_or rows q []) → to ≤ length (get_or rows q [])
      → joined (set rows q (take from (get_or rows q []) ++ (x ++ drop to (get_or rows q []))))
      ≡ take (length (joined (take q rows)) + from) (joined rows) ++ (x ++ drop (length (joined (take q rows)) + to) (joined rows))
  joined-replaced rows q from to x within low high =
      let a = joined (take q rows) in
      let r = get_or rows q [] in
      let c = joined (drop (q + 1) rows) in
      joined-set rows q (take from r ++ (x ++ drop to r)) within
      ∙ ap (λ t. a ++ t) (append_assoc (take from r) (x ++ drop to r) c ∙ ap (λ t. take from r ++ t) (append_assoc x (drop to r) c))
      ∙ sym (append_assoc a (take from r) (x ++ (drop to r ++ c)))
      ∙ ap₂ (λ s t. s ++ (x ++ t)) (sym (front-in rows q from within low)) (sym (back-in rows q to within high))

  -- a row that is cut in two
  pub joined-parted : (rows : List (List A)) (q : ℕ) (low high : List A) → q < length rows → low ++ high ≡ get_or rows q []
      → joined (insert (set rows q low) (q + 1) high) ≡ joined rows
  joined-parted rows q low high within is =
      let a = joined (take q rows) in
      let c = joined (drop (q + 1) rows) in
      let s = set rows q low in
      let front : joined (take (q + 1) s) ≡ a ++ low =
      ap joined (take_more_set rows q low within) ∙ joined-append (take q rows) (low ∷ []) ∙ ap (λ t. a ++ t) (append-nil low) in
      let back : joined (drop (q + 1) s) ≡ c = ap joined (drop-set-lt (q + 1) rows q low (omega arith)) in
      joined-append (take (q + 1) s) (high ∷ drop (q + 1) s) ∙ ap₂ (λ x y. x ++ (high ++ y)) front back
      ∙ append_assoc a low (high ++ c) ∙ ap (λ t. a ++ t) (sym (append_assoc low high c) ∙ ap (λ t. t ++ c) is) ∙ sym (joined-at rows q within)

  -- the rows before that, and its first part
  pub parted-before : (rows : List (List A)) (q : ℕ) (low high : List A) → q < length rows → take q (insert (set rows q low) (q + 1) high) ≡ take q rows
  parted-before rows q low high within =
      let s = set rows q low in
      let size : q ≤ length (take (q + 1) s) = omega (arith, length-take-le (q + 1) s (omega (arith, length-set rows q low, within))) in
      take-append-le q (take (q + 1) s) (high ∷ drop (q + 1) s) size ∙ take-take q (q + 1) s (omega arith) ∙ take-set rows q low

  pub parted-low : (rows : List (List A)) (q : ℕ) (low high : List A) → q < length rows → get_or (insert (set rows q low) (q + 1) high) q [] ≡ low
  parted-low rows q low high within =
      get_or-insert_below (set rows q low) (q + 1) high [] q (omega arith) (omega (arith, length-set rows q low, within)) ∙ get_or-set_same rows q low [] within

  -- the rows on the two sides of one that is taken out
  front-without : (rows : List (List A)) (i : ℕ) → i < length rows → take i (remove rows i) ≡ take i rows
  front-without rows i within = take_at (take i rows) (drop (suc i) rows) i (length-take-le i rows (omega (arith, within)))

  back-without : (rows : List (List A)) (i : ℕ) → i < length rows → drop i (remove rows i) ≡ drop (suc i) rows
  back-without rows i within =
      let n : i ≡ length (take i rows) + 0 = omega (arith, length-take-le i rows (omega (arith, within))) in
      ap (λ k. drop k (remove rows i)) n ∙ drop-append-add (take i rows) (drop (suc i) rows) 0

  pub removed-before : (rows : List (List A)) (q : ℕ) → q + 1 < length rows → take q (remove rows (q + 1)) ≡ take q rows
  removed-before rows q more =
      sym (take-take q (q + 1) (remove rows (q + 1)) (omega arith)) ∙ ap (take q) (front-without rows (q + 1) more) ∙ take-take q (q + 1) rows (omega arith)

  -- it is put in again
  pub taken-again : (rows : List (List A)) (i : ℕ) → i < length rows → insert (remove rows i) i (get_or rows i []) ≡ rows
  taken-again rows i within =
      ap₂ (λ x y. x ++ get_or rows i [] ∷ y) (front-without rows i within) (back-without rows i within ∙ ap (λ n. drop n rows) (sym (add-one i)))
      ∙ ap (λ t. take i rows ++ t) (sym (drop_more rows i [] within)) ∙ take-append-drop i rows

  -- a row that takes on the next one
  pub within-less : (rows : List (List A)) (q : ℕ) → q + 1 < length rows → q < length (remove rows (q + 1))
  within-less rows q more =
      omega (arith, length-append (take (q + 1) rows) (drop (suc (q + 1)) rows), length-take-le (q + 1) rows (omega (arith, more)))

  pub joined-onto : (rows : List (List A)) (q : ℕ) → q + 1 < length rows
      → joined (set (remove rows (q + 1)) q (get_or (remove rows (q + 1)) q [] ++ get_or rows (q + 1) [])) ≡ joined rows
  joined-onto rows q more =
      let less = remove rows (q + 1) in
      let own = get_or less q [] in
      let next = get_or rows (q + 1) [] in
      let within = within-less rows q more in
      let a = joined (take q less) in
      let back = back-without rows (q + 1) more ∙ ap (λ n. drop n rows) (sym (add-one (q + 1))) in
      joined-set less q (own ++ next) within
      ∙ ap (λ t. a ++ t) (append_assoc own next (joined (drop (q + 1) less)))
      ∙ sym (append_assoc a own (next ++ joined (drop (q + 1) less)))
      ∙ ap₂ (λ x y. x ++ (next ++ joined y)) (sym (joined-more less q within) ∙ ap joined (front-without rows (q + 1) more)) back
      ∙ sym (joined-at rows (q + 1) more)

  -- all up to a row and from it on
  pub front-from : (rows : List (List A)) (q n : ℕ) → n ≡ length (joined (take q rows)) → take n (joined rows) ≡ joined (take q rows)
  front-from rows q n is =
      let all = ap joined (sym (take-append-drop q rows)) ∙ joined-append (take q rows) (drop q rows) in
      ap (take n) all ∙ take_at (joined (take q rows)) (joined (drop q rows)) n (sym is)

  pub back-from : (rows : List (List A)) (q n : ℕ) → drop (length (joined (take q rows)) + n) (joined rows) ≡ drop n (joined (drop q rows))
  back-from rows q n =
      let a = joined (take q rows) in
      let all = ap joined (sym (take-append-drop q rows)) ∙ joined-append (take q rows) (drop q rows) in
      ap (drop (length a + n)) all ∙ drop-append-add a (joined (drop q rows)) n

  -- rows between others
  pub joined-between : (front new back : List (List A)) → joined (front ++ (new ++ back)) ≡ joined front ++ (joined new ++ joined back)
  joined-between front new back = joined-append front (new ++ back) ∙ ap (λ t. joined front ++ t) (joined-append new back)

  -- the row behind these
  pub get-between : (front new back : List (List A)) (q : ℕ) → q ≡ length front + length new → get_or (front ++ (new ++ back)) q [] ≡ get_or back 0 []
  get-between front new back q at =
      let x = front ++ new in
      let n : q ≡ length x + 0 = omega (arith, at, length-append front new) in
      ap₂ (λ t k. get_or t k []) (sym (append_assoc front new back)) n ∙ get_or-append-add x back 0 []

  -- and without the first of its own
  pub joined-dropped : (front new back : List (List A)) (q rest : ℕ) → q ≡ length front + length new → 0 < length back → rest ≤ length (get_or back 0 [])
      → joined (set (front ++ (new ++ back)) q (drop rest (get_or (front ++ (new ++ back)) q []))) ≡ joined front ++ (joined new ++ drop rest (joined back))
  joined-dropped front new back q rest at some inside =
      let x = front ++ new in
      let rows = front ++ (new ++ back) in
      let n : q ≡ length x + 0 = omega (arith, at, length-append front new) in
      let next : q + 1 ≡ length x + 1 = omega (arith, n) in
      let row = get-between front new back q at in
      let within : q < length rows = omega (arith, at, some, length-append front (new ++ back), length-append new back) in
      let low : take q rows ≡ x = ap (take q) (sym (append_assoc front new back)) ∙ take_at x back q (omega (arith, n)) in
      let high : drop (q + 1) rows ≡ drop 1 back = ap₂ drop next (sym (append_assoc front new back)) ∙ drop-append-add x back 1 in
      let whole : joined back ≡ get_or back 0 [] ++ joined (drop 1 back) = ap joined (drop_more back 0 [] some) in
      joined-set rows q (drop rest (get_or rows q [])) within
      ∙ ap₂ (λ a b. joined a ++ b) low (ap₂ (λ r b. drop rest r ++ joined b) row high)
      ∙ ap₂ (λ a b. a ++ b) (joined-append front new) (sym (ap (drop rest) whole ∙ drop-append-le rest (get_or back 0 []) (joined (drop 1 back)) inside))
      ∙ append_assoc (joined front) (joined new) (drop rest (joined back))

-- ---- what a function sees of rows of which one is written

module _ {A B : Type 0} (f : A → B) where
  map-joined_set : (rows : List (List A)) (q : ℕ) (x : List A) → q < length rows → map f (joined (set rows q x)) ≡ map f (joined (take q rows)) ++ (map f x ++ map f (joined (drop (q + 1) rows)))
  map-joined_set rows q x within =
      let a = joined (take q rows) in
      let c = joined (drop (q + 1) rows) in
      ap (map f) (joined-set rows q x within) ∙ map-append f a (x ++ c) ∙ ap (λ t. map f a ++ t) (map-append f x c)

  map-joined_at : (rows : List (List A)) (q : ℕ) → q < length rows → map f (joined rows) ≡ map f (joined (take q rows)) ++ (map f (get_or rows q []) ++ map f (joined (drop (q + 1) rows)))
  map-joined_at rows q within =
      let a = joined (take q rows) in
      let r = get_or rows q [] in
      let c = joined (drop (q + 1) rows) in
      ap (map f) (joined-at rows q within) ∙ map-append f a (r ++ c) ∙ ap (λ t. map f a ++ t) (map-append f r c)

  -- a row that it cannot tell from the one that was there
  pub joined-same : (rows : List (List A)) (q : ℕ) (x : List A) → q < length rows → map f x ≡ map f (get_or rows q []) → map f (joined (set rows q x)) ≡ map f (joined rows)
  joined-same rows q x within same =
      map-joined_set rows q x within ∙ ap (λ t. map f (joined (take q rows)) ++ (t ++ map f (joined (drop (q + 1) rows)))) same ∙ sym (map-joined_at rows q within)

  -- a row of which one element is written
  pub joined-written : (rows : List (List A)) (q i : ℕ) (x : List A) (y : B) → q < length rows → i < length (get_or rows q []) → map f x ≡ set (map f (get_or rows q [])) i y
      → map f (joined (set rows q x)) ≡ set (map f (joined rows)) (length (joined (take q rows)) + i) y
  joined-written rows q i x y within inside is =
      let a = map f (joined (take q rows)) in
      let r = map f (get_or rows q []) in
      let c = map f (joined (drop (q + 1) rows)) in
      let size : length a ≡ length (joined (take q rows)) = length-map (joined (take q rows)) f in
      let n = length (joined (take q rows)) + i in
      let near : n - length (joined (take q rows)) ≡ i = omega arith in
      map-joined_set rows q x within ∙ ap (λ t. a ++ (t ++ c)) is ∙ ap (λ t. a ++ t) (sym (set-append_left r c i y (omega (arith, length-map (get_or rows q []) f, inside))))
      ∙ ap (λ k. a ++ set (r ++ c) k y) (sym near) ∙ sym (set-append_right a (r ++ c) (length (joined (take q rows))) n y size (omega arith))
      ∙ ap (λ t. set t n y) (sym (map-joined_at rows q within))
