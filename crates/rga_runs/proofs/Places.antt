-- Where an element goes among parts.
use Rattle.std.proofs.Common.{◌≡◌, ℕ, zero, suc, ◌<◌, ◌≤◌, ◌+◌, ◌-◌, true, List, [], ◌∷◌, ◌++◌, length, take, drop, get_or, Option, Some, None, refl, sym, ap, ◌∙◌, append_assoc, length-append, length-drop, arith}
use Rattle.std.proofs.lemmas.List.{take-append-drop, drop_at, take_all, drop_all}
use Rattle.std.proofs.lemmas.List.Edits.{insert-append_right}
use Rattle.std.specs.Prelude.{IsSome, insert, set}
use Rattle.std.specs.Option.{IfNone}
use Rattle.std.specs.List.{prefix_len}
use Rattle.bg_types.specs.Identifier.{Identifier}
use Rattle.bg_types.specs.declared.op.Place.TheVariants.{After}
use Rattle.rga_tree.specs.declared.element.Element.{Element}
use Rattle.rga_tree.specs.Row.{place_of}
use Rattle.rga_tree.proofs.Interface.{put_in, until, is_greater, pre_all, set_joined, get_or_joined, joined-suc, drop_joined, insert_joined}
use Rattle.rga_tree.specs.Spot.{joined, offset}
use Rattle.rga_runs.proofs.Chunks.{take_row, drop_row}

pub some_of : {X : Type 0} (o : Option X) (P : Type 0) → IfNone o P → (P → ⊥) → IsSome o
some_of None P h never = absurd (never h)
some_of (Some x) P h never = refl

joined-append : (xs ys : List (List Element)) → joined (xs ++ ys) ≡ joined xs ++ joined ys
joined-append [] ys = refl
joined-append (x ∷ xs) ys = ap (λ r. x ++ r) (joined-append xs ys) ∙ sym (append_assoc x (joined xs) (joined ys))

-- the parts behind the first r are what follows those
pub drop_parts : (xs : List (List Element)) (r : ℕ) → joined (drop r xs) ≡ drop (length (joined (take r xs))) (joined xs)
drop_parts xs r =
    let all : joined xs ≡ joined (take r xs) ++ joined (drop r xs) = ap joined (sym (take-append-drop r xs)) ∙ joined-append (take r xs) (drop r xs) in
    sym (ap (drop (length (joined (take r xs)))) all ∙ drop_at (joined (take r xs)) (joined (drop r xs)) (length (joined (take r xs))) refl)

-- where a part begins right behind the parent
pub place_cut : (above id : Identifier) (xs ys : List (List Element)) (r s : ℕ) → joined ys ≡ joined xs → length (joined (take r ys)) ≡ s → s ≡ until above (joined xs) + 1
    → length (joined (take r ys)) + prefix_len (is_greater id) (joined (drop r ys)) ≡ place_of (After above) id (joined xs)
place_cut above id xs ys r s same at start =
    let rest : joined (drop r ys) ≡ drop (until above (joined xs) + 1) (joined xs) = drop_parts ys r ∙ (λ i. drop ((at ∙ start) i) (same i)) in
    λ i. (at ∙ start) i + prefix_len (is_greater id) (rest i)

-- where what follows an element in its part is greater
pub passed_part : (id : Identifier) (xs : List (List Element)) (p k : ℕ) → p < length xs → k < length (get_or xs p [])
    → prefix_len (is_greater id) (drop (k + 1) (get_or xs p [])) ≡ length (drop (k + 1) (get_or xs p []))
    → length (joined (take (p + 1) xs)) + prefix_len (is_greater id) (joined (drop (p + 1) xs)) ≡ offset xs p k + 1 + prefix_len (is_greater id) (drop (offset xs p k + 1) (joined xs))
passed_part id xs p k there within all =
    let x = get_or xs p [] in
    let one_more : p + 1 ≡ suc p = omega arith in
    let start : offset xs p (k + 1) ≡ offset xs p k + 1 = omega arith in
    let rest : drop (offset xs p k + 1) (joined xs) ≡ drop (k + 1) x ++ joined (drop (suc p) xs) =
    ap (λ n. drop n (joined xs)) (sym start) ∙ drop_joined xs p (k + 1) there (omega (arith, within)) in
    let passed : prefix_len (is_greater id) (drop (offset xs p k + 1) (joined xs)) ≡ length (drop (k + 1) x) + prefix_len (is_greater id) (joined (drop (suc p) xs)) =
    ap (prefix_len (is_greater id)) rest ∙ pre_all (is_greater id) (drop (k + 1) x) (joined (drop (suc p) xs)) all in
    let front : length (joined (take (suc p) xs)) ≡ length (joined (take p xs)) + length x = joined-suc xs p in
    ap (λ n. length (joined (take n xs)) + prefix_len (is_greater id) (joined (drop n xs))) one_more
    ∙ omega (arith, passed, front, start, length-drop (k + 1) x, within)

-- where that is the parent
pub place_passed : (above id : Identifier) (xs : List (List Element)) (p k : ℕ) → p < length xs → k < length (get_or xs p []) → offset xs p k ≡ until above (joined xs)
    → prefix_len (is_greater id) (drop (k + 1) (get_or xs p [])) ≡ length (drop (k + 1) (get_or xs p []))
    → length (joined (take (p + 1) xs)) + prefix_len (is_greater id) (joined (drop (p + 1) xs)) ≡ place_of (After above) id (joined xs)
place_passed above id xs p k there within at all =
    passed_part id xs p k there within all ∙ ap (λ n. n + 1 + prefix_len (is_greater id) (drop (n + 1) (joined xs))) at

-- one more part of one element
pub insert_part : (xs : List (List Element)) (p : ℕ) (n : Element) → p ≤ length xs → joined (insert xs p (n ∷ [])) ≡ insert (joined xs) (length (joined (take p xs))) n
insert_part xs zero n within = refl
insert_part [] (suc p) n within = absurd (omega arith)
insert_part (x ∷ xs) (suc p) n within =
    let m = length (joined (take p xs)) in
    let f : length (x ++ joined (take p xs)) ≡ length x + m = length-append x (joined (take p xs)) in
    let g : length x + m - length x ≡ m = omega arith in
    ap (λ r. x ++ r) (insert_part xs p n (omega arith)) ∙ sym (ap (λ k. insert (x ++ joined xs) k n) f
    ∙ insert-append_right x (joined xs) (length x) (length x + m) n refl (omega arith) ∙ ap (λ k. x ++ insert (joined xs) k n) g)

-- one more element at the end of a part
pub insert_last : (xs : List (List Element)) (p q : ℕ) (n : Element) → p ≡ suc q → q < length xs → joined (set xs q (get_or xs q [] ++ n ∷ [])) ≡ insert (joined xs) (length (joined (take p xs))) n
insert_last xs p q n is there =
    let x = get_or xs q [] in
    let last : insert x (length x) n ≡ x ++ n ∷ [] = (λ i. take_all (length x) x (omega arith) i ++ n ∷ drop_all (length x) x (omega arith) i) in
    let end : offset xs q (length x) ≡ length (joined (take p xs)) = sym (joined-suc xs q) ∙ ap (λ k. length (joined (take k xs))) (sym is) in
    ap (λ y. joined (set xs q y)) (sym last) ∙ insert_joined xs q (length x) n there (omega arith) ∙ ap (λ k. insert (joined xs) k n) end

-- a part that is another one now
joined_set : (xs : List (List Element)) (q : ℕ) (y : List Element) → q < length xs → joined (set xs q y) ≡ joined (take q xs) ++ (y ++ joined (drop (suc q) xs))
joined_set [] q y there = absurd (omega arith)
joined_set (x ∷ xs) zero y there = refl
joined_set (x ∷ xs) (suc q) y there = ap (λ r. x ++ r) (joined_set xs q y (omega arith)) ∙ sym (append_assoc x (joined (take q xs)) (y ++ joined (drop (suc q) xs)))

-- more elements at the end of a part
pub put_last : (xs : List (List Element)) (q at : ℕ) (ns : List Element) → q < length xs → at ≡ offset xs q (length (get_or xs q [])) → joined (set xs q (get_or xs q [] ++ ns)) ≡ put_in (joined xs) at ns
put_last xs q at ns there is =
    let x = get_or xs q [] in
    let a = joined (take q xs) in
    let b = joined (drop (suc q) xs) in
    let front : take at (joined xs) ≡ a ++ x = ap (λ k. take k (joined xs)) is ∙ take_row xs q (length x) there (omega arith) ∙ ap (λ l. a ++ l) (take_all (length x) x (omega arith)) in
    let back : drop at (joined xs) ≡ b = ap (λ k. drop k (joined xs)) is ∙ drop_row xs q (length x) there (omega arith) ∙ ap (λ l. l ++ b) (drop_all (length x) x (omega arith)) in
    joined_set xs q (x ++ ns) there ∙ ap (λ r. a ++ r) (append_assoc x ns b) ∙ sym (append_assoc a x (ns ++ b)) ∙ (λ i. sym front i ++ (ns ++ sym back i))

-- an element that is hidden already
pub hidden_already : (row : List Element) (at : ℕ) (d : Element) → at < length row → (get_or row at d).hidden ≡ true → row ≡ set row at (record (get_or row at d) { hidden = true })
hidden_already [] at d there is = absurd (omega arith)
hidden_already (e ∷ row) zero d there is = λ i. record e { hidden = is i } ∷ row
hidden_already (e ∷ row) (suc at) d there is = ap (λ r. e ∷ r) (hidden_already row at d (omega arith) is)

-- an element of a part that is hidden
pub hide_part : (xs : List (List Element)) (q k : ℕ) (d : Element) → q < length xs → k < length (get_or xs q [])
    → joined (set xs q (set (get_or xs q []) k (record (get_or (get_or xs q []) k d) { hidden = true }))) ≡ set (joined xs) (offset xs q k) (record (get_or (joined xs) (offset xs q k) d) { hidden = true })
hide_part xs q k d there within =
    let y = get_or xs q [] in
    set_joined xs q k (record (get_or y k d) { hidden = true }) there within
    ∙ ap (λ (e : Element). set (joined xs) (offset xs q k) (record e { hidden = true })) (sym (get_or_joined xs q k d there within))
