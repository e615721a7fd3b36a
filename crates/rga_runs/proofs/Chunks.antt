-- Lists joined to a row.
use Rattle.std.proofs.Common.{◌≡◌, ℕ, zero, suc, ◌<◌, ◌≤◌, ◌+◌, ◌-◌, List, [], ◌∷◌, ◌++◌, length, take, drop, get_or, refl, sym, ap, ◌∙◌, zero-add, length-append, append_assoc, arith}
use Rattle.std.specs.Prelude.{insert, set, map as each}
use Rattle.std.specs.List.{flat_map}
use Rattle.std.proofs.lemmas.List.{append-nil, drop-append-le, drop-drop, drop-map, drop_at, length-set, map-append, set-append_left, take-append-le, take-map}
use Rattle.std.proofs.lemmas.List.Concat.{get_or-flat_map}
use Rattle.std.proofs.lemmas.List.Edits.{insert-append_left, insert-append_right}

-- what stands for the elements of a list with one more
pub map-insert : {X Y : Type 0} (f : X → Y) (xs : List X) (i : ℕ) (x : X) → each f (insert xs i x) ≡ insert (each f xs) i (f x)
map-insert f xs i x = map-append f (take i xs) (x ∷ drop i xs) ∙ (λ j. sym (take-map f i xs) j ++ f x ∷ sym (drop-map f i xs) j)

module _ {X : Type 0} where
  abbrev pub row : List (List X) → List X
  row xs = flat_map (λ x. x) xs

  abbrev pub at : List (List X) → ℕ → ℕ → ℕ
  at xs b j = length (row (take b xs)) + j

  pub row-suc : (xs : List (List X)) (p : ℕ) → length (row (take (suc p) xs)) ≡ length (row (take p xs)) + length (get_or xs p [])
  row-suc [] zero = refl
  row-suc [] (suc p) = refl
  row-suc (x ∷ xs) zero = omega (arith, length-append x [])
  row-suc (x ∷ xs) (suc p) = omega (arith, length-append x (row (take (suc p) xs)), length-append x (row (take p xs)), row-suc xs p)

  pub at_within : (xs : List (List X)) (b j : ℕ) → b < length xs → j ≤ length (get_or xs b []) → at xs b j ≤ length (row xs)
  at_within [] b j there within = absurd (omega arith)
  at_within (x ∷ xs) zero j there within = omega (arith, length-append x (row xs))
  at_within (x ∷ xs) (suc b) j there within = omega (arith, at_within xs b j (omega arith) within, length-append x (row xs), length-append x (row (take b xs)))

  pub at_less : (xs : List (List X)) (b j : ℕ) → b < length xs → j < length (get_or xs b []) → at xs b j < length (row xs)
  at_less [] b j there within = absurd (omega arith)
  at_less (x ∷ xs) zero j there within = omega (arith, length-append x (row xs))
  at_less (x ∷ xs) (suc b) j there within = omega (arith, at_less xs b j (omega arith) within, length-append x (row xs), length-append x (row (take b xs)))

  -- what stands from a place on
  drop_past : (x r : List X) (n : ℕ) → drop (length x + n) (x ++ r) ≡ drop n r
  drop_past x r n = sym (drop-drop n (length x) (x ++ r)) ∙ ap (drop n) (drop_at x r (length x) refl)

  pub drop_row : (xs : List (List X)) (p j : ℕ) → p < length xs → j ≤ length (get_or xs p []) → drop (at xs p j) (row xs) ≡ drop j (get_or xs p []) ++ row (drop (suc p) xs)
  drop_row [] p j there within = absurd (omega arith)
  drop_row (x ∷ xs) zero j there within = rw (zero-add j) (drop-append-le j x (row xs) within)
  drop_row (x ∷ xs) (suc p) j there within =
      let e : length (x ++ row (take p xs)) + j ≡ length x + at xs p j = omega (arith, length-append x (row (take p xs))) in
      rw e (drop_past x (row xs) (at xs p j) ∙ drop_row xs p j (omega arith) within)

  -- what stands before a place
  take_past : (x r : List X) (n : ℕ) → take (length x + n) (x ++ r) ≡ x ++ take n r
  take_past [] r n = rw (zero-add n) refl
  take_past (e ∷ x) r n = let s : suc (length x) + n ≡ suc (length x + n) = omega arith in rw s (ap (λ l. e ∷ l) (take_past x r n))

  pub take_row : (xs : List (List X)) (p j : ℕ) → p < length xs → j ≤ length (get_or xs p []) → take (at xs p j) (row xs) ≡ row (take p xs) ++ take j (get_or xs p [])
  take_row [] p j there within = absurd (omega arith)
  take_row (x ∷ xs) zero j there within = rw (zero-add j) (take-append-le j x (row xs) within)
  take_row (x ∷ xs) (suc p) j there within =
      let e : length (x ++ row (take p xs)) + j ≡ length x + at xs p j = omega (arith, length-append x (row (take p xs))) in
      rw e (take_past x (row xs) (at xs p j) ∙ ap (λ r. x ++ r) (take_row xs p j (omega arith) within) ∙ sym (append_assoc x (row (take p xs)) (take j (get_or xs p []))))

  -- one more in a list is one more in the row
  pub insert_row : (xs : List (List X)) (q i : ℕ) (n : X) → q < length xs → i ≤ length (get_or xs q []) → row (set xs q (insert (get_or xs q []) i n)) ≡ insert (row xs) (at xs q i) n
  insert_row [] q i n there within = absurd (omega arith)
  insert_row (x ∷ xs) zero i n there within = rw (zero-add i) (sym (insert-append_left x (row xs) i n within))
  insert_row (x ∷ xs) (suc q) i n there within =
      let e : length (x ++ row (take q xs)) + i ≡ length x + at xs q i = omega (arith, length-append x (row (take q xs))) in
      let f : length x + at xs q i - length x ≡ at xs q i = omega arith in
      rw e (ap (λ r. x ++ r) (insert_row xs q i n (omega arith) within)
      ∙ sym (insert-append_right x (row xs) (length x) (length x + at xs q i) n refl (omega arith) ∙ ap (λ k. x ++ insert (row xs) k n) f))

  -- a read and a write in a list are those in the row
  pub get_or_row : (xs : List (List X)) (p j : ℕ) (d : X) → p < length xs → j < length (get_or xs p []) → get_or (row xs) (at xs p j) d ≡ get_or (get_or xs p []) j d
  get_or_row xs p j d there within = get_or-flat_map (λ x. x) xs p j [] d there within

  set-past : (x y : List X) (n : ℕ) (v : X) → set (x ++ y) (length x + n) v ≡ x ++ set y n v
  set-past [] y n v = rw (zero-add n) refl
  set-past (e ∷ x) y n v = let s : suc (length x) + n ≡ suc (length x + n) = omega arith in rw s (ap (λ r. e ∷ r) (set-past x y n v))

  pub set_row : (xs : List (List X)) (p j : ℕ) (v : X) → p < length xs → j < length (get_or xs p []) → row (set xs p (set (get_or xs p []) j v)) ≡ set (row xs) (at xs p j) v
  set_row [] p j v there within = absurd (omega arith)
  set_row (x ∷ xs) zero j v there within = rw (zero-add j) (sym (set-append_left x (row xs) j v within))
  set_row (x ∷ xs) (suc p) j v there within =
      let e : length (x ++ row (take p xs)) + j ≡ length x + at xs p j = omega (arith, length-append x (row (take p xs))) in
      rw e (ap (λ r. x ++ r) (set_row xs p j v (omega arith) within) ∙ sym (set-past x (row xs) (at xs p j) v))

  -- a list that is changed and has one more
  insert-past : (x y : List X) (n : ℕ) (v : X) → insert (x ++ y) (length x + n) v ≡ x ++ insert y n v
  insert-past x y n v =
      let f : length x + n - length x ≡ n = omega arith in
      insert-append_right x y (length x) (length x + n) v refl (omega arith) ∙ ap (λ k. x ++ insert y k v) f

  pub part_row : (xs : List (List X)) (p j : ℕ) (v w : X) → p < length xs → j < length (get_or xs p [])
      → row (set xs p (insert (set (get_or xs p []) j v) (j + 1) w)) ≡ insert (set (row xs) (at xs p j) v) (at xs p j + 1) w
  part_row [] p j v w there within = absurd (omega arith)
  part_row (x ∷ xs) zero j v w there within =
      rw (zero-add j) (sym (ap (λ r. insert r (j + 1) w) (set-append_left x (row xs) j v within) ∙ insert-append_left (set x j v) (row xs) (j + 1) w (omega (arith, within, length-set x j v))))
  part_row (x ∷ xs) (suc p) j v w there within =
      let e : length (x ++ row (take p xs)) + j ≡ length x + at xs p j = omega (arith, length-append x (row (take p xs))) in
      let f : length x + at xs p j + 1 ≡ length x + (at xs p j + 1) = omega arith in
      rw e (rw f (ap (λ r. x ++ r) (part_row xs p j v w (omega arith) within)
      ∙ sym (ap (λ r. insert r (length x + (at xs p j + 1)) w) (set-past x (row xs) (at xs p j) v) ∙ insert-past x (set (row xs) (at xs p j) v) (at xs p j + 1) w)))

  -- a list in two is the same row
  pub split_row : (xs : List (List X)) (q : ℕ) (low high : List X) → q < length xs → get_or xs q [] ≡ low ++ high → row (insert (set xs q low) (q + 1) high) ≡ row xs
  split_row xs q low high there is = let e : q + 1 ≡ suc q = omega arith in rw e (halves xs q there is) where
    halves : (xs : List (List X)) (q : ℕ) → q < length xs → get_or xs q [] ≡ low ++ high → row (insert (set xs q low) (suc q) high) ≡ row xs
    halves [] q there is = absurd (omega arith)
    halves (x ∷ xs) zero there is = sym (append_assoc low high (row xs)) ∙ ap (λ y. y ++ row xs) (sym is)
    halves (x ∷ xs) (suc q) there is = ap (λ r. x ++ r) (halves xs q (omega arith) is)

  pub split_low : (xs : List (List X)) (q : ℕ) (low high : List X) → q < length xs → get_or (insert (set xs q low) (q + 1) high) q [] ≡ low
  split_low xs q low high there = let e : q + 1 ≡ suc q = omega arith in rw e (here xs q there) where
    here : (xs : List (List X)) (q : ℕ) → q < length xs → get_or (insert (set xs q low) (suc q) high) q [] ≡ low
    here [] q there = absurd (omega arith)
    here (x ∷ xs) zero there = refl
    here (x ∷ xs) (suc q) there = here xs q (omega arith)

  pub split_high : (xs : List (List X)) (q : ℕ) (low high : List X) → q < length xs → get_or (insert (set xs q low) (q + 1) high) (q + 1) [] ≡ high
  split_high xs q low high there = let e : q + 1 ≡ suc q = omega arith in rw e (here xs q there) where
    here : (xs : List (List X)) (q : ℕ) → q < length xs → get_or (insert (set xs q low) (suc q) high) (suc q) [] ≡ high
    here [] q there = absurd (omega arith)
    here (x ∷ xs) zero there = refl
    here (x ∷ xs) (suc q) there = here xs q (omega arith)

  pub split_front : (xs : List (List X)) (q : ℕ) (low high : List X) → q < length xs → take q (insert (set xs q low) (q + 1) high) ≡ take q xs
  split_front xs q low high there = let e : q + 1 ≡ suc q = omega arith in rw e (here xs q there) where
    here : (xs : List (List X)) (q : ℕ) → q < length xs → take q (insert (set xs q low) (suc q) high) ≡ take q xs
    here [] q there = absurd (omega arith)
    here (x ∷ xs) zero there = refl
    here (x ∷ xs) (suc q) there = ap (λ r. x ∷ r) (here xs q (omega arith))

  pub split_long : (xs : List (List X)) (q : ℕ) (low high : List X) → q < length xs → length (insert (set xs q low) (q + 1) high) ≡ length xs + 1
  split_long xs q low high there = let e : q + 1 ≡ suc q = omega arith in rw e (here xs q there) where
    here : (xs : List (List X)) (q : ℕ) → q < length xs → length (insert (set xs q low) (suc q) high) ≡ length xs + 1
    here [] q there = absurd (omega arith)
    here (x ∷ xs) zero there = omega arith
    here (x ∷ xs) (suc q) there = omega (arith, here xs q (omega arith))

  pub at_low : (xs : List (List X)) (q i : ℕ) (low high : List X) → q < length xs → at (insert (set xs q low) (q + 1) high) q i ≡ at xs q i
  at_low xs q i low high there = ap (λ r. length (row r) + i) (split_front xs q low high there)

  pub at_high : (xs : List (List X)) (q i : ℕ) (low high : List X) → q < length xs → at (insert (set xs q low) (q + 1) high) (q + 1) i ≡ at xs q (length low + i)
  at_high xs q i low high there =
      let ys = insert (set xs q low) (q + 1) high in
      let s : q + 1 ≡ suc q = omega arith in
      omega (arith, ap (λ k. length (row (take k ys))) s, row-suc ys q, ap length (split_low xs q low high there), ap (λ r. length (row r)) (split_front xs q low high there))

  -- what is there, where something is
  pub one_there : (xs : List X) (j : ℕ) → j < length xs → X
  one_there [] j there = absurd (omega arith)
  one_there (x ∷ xs) j there = x

  pub row_take : (xs : List (List X)) (p : ℕ) → row (take (suc p) xs) ≡ row (take p xs) ++ get_or xs p []
  row_take [] zero = refl
  row_take [] (suc p) = refl
  row_take (x ∷ xs) zero = append-nil x
  row_take (x ∷ xs) (suc p) = ap (λ r. x ++ r) (row_take xs p) ∙ sym (append_assoc x (row (take p xs)) (get_or xs p []))

  pub row_around : (xs : List (List X)) (p : ℕ) → p < length xs → row xs ≡ row (take p xs) ++ (get_or xs p [] ++ row (drop (suc p) xs))
  row_around [] p there = absurd (omega arith)
  row_around (x ∷ xs) zero there = refl
  row_around (x ∷ xs) (suc p) there = ap (λ r. x ++ r) (row_around xs p (omega arith)) ∙ sym (append_assoc x (row (take p xs)) (get_or xs p [] ++ row (drop (suc p) xs)))

  pub row-add : (xs : List (List X)) (m k : ℕ) → length (row (take (m + k) xs)) ≡ length (row (take m xs)) + length (row (take k (drop m xs)))
  row-add xs zero k = rw (zero-add k) (sym (zero-add (length (row (take k xs)))))
  row-add [] (suc m) k = let e : suc m + k ≡ suc (m + k) = omega arith in rw e (none k) where
    none : (k : ℕ) → 0 ≡ 0 + length (row (take k []))
    none zero = refl
    none (suc k) = refl
  row-add (x ∷ xs) (suc m) k =
      let e : suc m + k ≡ suc (m + k) = omega arith in
      rw e (omega (arith, length-append x (row (take (m + k) xs)), length-append x (row (take m xs)), row-add xs m k))

  -- what stands around one
  pub item_parts : (xs : List X) (i : ℕ) (x : X) → i < length xs → x ≡ get_or xs i x → xs ≡ take i xs ++ x ∷ drop (suc i) xs
  item_parts [] i x there is = absurd (omega arith)
  item_parts (y ∷ xs) zero x there is = ap (λ z. z ∷ xs) (sym is)
  item_parts (y ∷ xs) (suc i) x there is = ap (λ l. y ∷ l) (item_parts xs i x (omega arith) is)

  pub drop_item : (xs : List X) (i : ℕ) (x : X) → i < length xs → x ≡ get_or xs i x → drop i xs ≡ x ∷ drop (suc i) xs
  drop_item [] i x there is = absurd (omega arith)
  drop_item (y ∷ xs) zero x there is = ap (λ z. z ∷ xs) (sym is)
  drop_item (y ∷ xs) (suc i) x there is = drop_item xs i x (omega arith) is
