-- Parts of elements, joined to one row.
use Rattle.std.proofs.Common.{◌≡◌, ℕ, zero, suc, ◌<◌, ◌≤◌, ◌+◌, ◌-◌, List, [], ◌∷◌, ◌++◌, length, take, drop, get_or, Some, refl, sym, ap, ◌∙◌, zero-add, length-append, length-set, length-take-le, append_assoc, arith}
use Rattle.std.specs.Prelude.{insert, set, slice_get}
use Rattle.std.proofs.lemmas.List.{drop-append-le, drop-drop, drop_at, get_or-set_same, set-append_left, set-append_right, take-append-le, take-set, take-take}
use Rattle.std.proofs.lemmas.List.Concat.{get_or-flat_map}
use Rattle.std.proofs.lemmas.List.Edits.{get_or-insert_below, insert-append_left, insert-append_right, length-insert}
use Rattle.std.proofs.lemmas.List.Folds.{length-flat_map-take}
use Rattle.std.proofs.lemmas.Option.{slice_get-get_or}
use Rattle.rga_tree.specs.declared.element.Element.{Element}
use Rattle.rga_tree.specs.Spot.{joined, offset}

pub joined-suc : (xs : List (List Element)) (p : ℕ) → length (joined (take (suc p) xs)) ≡ length (joined (take p xs)) + length (get_or xs p [])
joined-suc [] zero = refl
joined-suc [] (suc p) = refl
joined-suc (x ∷ xs) zero = omega (arith, length-append x [])
joined-suc (x ∷ xs) (suc p) = omega (arith, length-append x (joined (take (suc p) xs)), length-append x (joined (take p xs)), joined-suc xs p)

pub joined-add : (xs : List (List Element)) (m k : ℕ) → length (joined (take (m + k) xs)) ≡ length (joined (take m xs)) + length (joined (take k (drop m xs)))
joined-add xs zero k = rw (zero-add k) (sym (zero-add (length (joined (take k xs)))))
joined-add [] (suc m) k = let e : suc m + k ≡ suc (m + k) = omega arith in rw e (none k) where
  none : (k : ℕ) → 0 ≡ 0 + length (joined (take k []))
  none zero = refl
  none (suc k) = refl
joined-add (x ∷ xs) (suc m) k =
    let e : suc m + k ≡ suc (m + k) = omega arith in
    rw e (omega (arith, length-append x (joined (take (m + k) xs)), length-append x (joined (take m xs)), joined-add xs m k))

pub offset_less : (xs : List (List Element)) (p j : ℕ) → p < length xs → j < length (get_or xs p []) → offset xs p j < length (joined xs)
offset_less xs p j there within = omega (arith, length-flat_map-take (λ (x : List Element). x) xs p [] there, within)

-- ---- what stands at a place

pub get_or_joined : (xs : List (List Element)) (p j : ℕ) (d : Element) → p < length xs → j < length (get_or xs p []) → get_or (joined xs) (offset xs p j) d ≡ get_or (get_or xs p []) j d
get_or_joined xs p j d there within = get_or-flat_map (λ (x : List Element). x) xs p j [] d there within

pub slice_get_joined : (xs : List (List Element)) (p j : ℕ) → p < length xs → j < length (get_or xs p []) → slice_get (joined xs) (offset xs p j) ≡ slice_get (get_or xs p []) j
slice_get_joined xs p j there within = by_part (get_or xs p []) within where
  by_part : (part : List Element) → j < length part → slice_get (joined xs) (offset xs p j) ≡ slice_get (get_or xs p []) j
  by_part [] some = absurd (omega (arith, some))
  by_part (d ∷ part) some =
      slice_get-get_or (joined xs) (offset xs p j) d (offset_less xs p j there within) ∙ ap Some (get_or_joined xs p j d there within) ∙ sym (slice_get-get_or (get_or xs p []) j d within)

drop_past : (x r : List Element) (n : ℕ) → drop (length x + n) (x ++ r) ≡ drop n r
drop_past x r n = sym (drop-drop n (length x) (x ++ r)) ∙ ap (drop n) (drop_at x r (length x) refl)

-- what stands from a place on
pub drop_joined : (xs : List (List Element)) (p j : ℕ) → p < length xs → j ≤ length (get_or xs p []) → drop (offset xs p j) (joined xs) ≡ drop j (get_or xs p []) ++ joined (drop (suc p) xs)
drop_joined [] p j there within = absurd (omega arith)
drop_joined (x ∷ xs) zero j there within = rw (zero-add j) (drop-append-le j x (joined xs) within)
drop_joined (x ∷ xs) (suc p) j there within =
    let e : length (x ++ joined (take p xs)) + j ≡ length x + offset xs p j = omega (arith, length-append x (joined (take p xs))) in
    rw e (drop_past x (joined xs) (offset xs p j) ∙ drop_joined xs p j (omega arith) within)

-- ---- changes of a part

-- a write in a part is a write in the row
pub set_joined : (xs : List (List Element)) (p j : ℕ) (v : Element) → p < length xs → j < length (get_or xs p []) → joined (set xs p (set (get_or xs p []) j v)) ≡ set (joined xs) (offset xs p j) v
set_joined [] p j v there within = absurd (omega arith)
set_joined (x ∷ xs) zero j v there within = rw (zero-add j) (sym (set-append_left x (joined xs) j v within))
set_joined (x ∷ xs) (suc p) j v there within =
    let e : length (x ++ joined (take p xs)) + j ≡ length x + offset xs p j = omega (arith, length-append x (joined (take p xs))) in
    let f : length x + offset xs p j - length x ≡ offset xs p j = omega arith in
    rw e (ap (λ r. x ++ r) (set_joined xs p j v (omega arith) within)
    ∙ sym (set-append_right x (joined xs) (length x) (length x + offset xs p j) v refl (omega arith) ∙ ap (λ k. x ++ set (joined xs) k v) f))

-- one more element in a part is one more in the row
pub insert_joined : (xs : List (List Element)) (q at : ℕ) (n : Element) → q < length xs → at ≤ length (get_or xs q []) → joined (set xs q (insert (get_or xs q []) at n)) ≡ insert (joined xs) (offset xs q at) n
insert_joined [] q at n there within = absurd (omega arith)
insert_joined (x ∷ xs) zero at n there within = rw (zero-add at) (sym (insert-append_left x (joined xs) at n within))
insert_joined (x ∷ xs) (suc q) at n there within =
    let e : length (x ++ joined (take q xs)) + at ≡ length x + offset xs q at = omega (arith, length-append x (joined (take q xs))) in
    let f : length x + offset xs q at - length x ≡ offset xs q at = omega arith in
    rw e (ap (λ r. x ++ r) (insert_joined xs q at n (omega arith) within)
    ∙ sym (insert-append_right x (joined xs) (length x) (length x + offset xs q at) n refl (omega arith) ∙ ap (λ k. x ++ insert (joined xs) k n) f))

-- ---- a part in two

pub split_joined : (xs : List (List Element)) (q : ℕ) (low high : List Element) → q < length xs → get_or xs q [] ≡ low ++ high → joined (insert (set xs q low) (q + 1) high) ≡ joined xs
split_joined xs q low high there is = let e : q + 1 ≡ suc q = omega arith in rw e (halves xs q there is) where
  halves : (xs : List (List Element)) (q : ℕ) → q < length xs → get_or xs q [] ≡ low ++ high → joined (insert (set xs q low) (suc q) high) ≡ joined xs
  halves [] q there is = absurd (omega arith)
  halves (x ∷ xs) zero there is = sym (append_assoc low high (joined xs)) ∙ ap (λ y. y ++ joined xs) (sym is)
  halves (x ∷ xs) (suc q) there is = ap (λ r. x ++ r) (halves xs q (omega arith) is)

pub split_low : (xs : List (List Element)) (q : ℕ) (low high : List Element) → q < length xs → get_or (insert (set xs q low) (q + 1) high) q [] ≡ low
split_low xs q low high there =
    get_or-insert_below (set xs q low) (q + 1) high [] q (omega arith) (omega (arith, there, length-set xs q low)) ∙ get_or-set_same xs q low [] there

pub split_front : (xs : List (List Element)) (q : ℕ) (low high : List Element) → q < length xs → take q (insert (set xs q low) (q + 1) high) ≡ take q xs
split_front xs q low high there =
    let ys = set xs q low in
    let long : length (take (q + 1) ys) ≡ q + 1 = length-take-le (q + 1) ys (omega (arith, there, length-set xs q low)) in
    take-append-le q (take (q + 1) ys) (high ∷ drop (q + 1) ys) (omega (arith, long)) ∙ take-take q (q + 1) ys (omega arith) ∙ take-set xs q low

pub split_long : (xs : List (List Element)) (q : ℕ) (low high : List Element) → q < length xs → length (insert (set xs q low) (q + 1) high) ≡ length xs + 1
split_long xs q low high there = length-insert (set xs q low) (q + 1) high (omega (arith, there, length-set xs q low)) ∙ ap (λ n. n + 1) (length-set xs q low)
