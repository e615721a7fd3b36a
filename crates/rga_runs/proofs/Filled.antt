-- The parts of the blocks, of which each has as many.
use Rattle.std.proofs.Common.{◌≡◌, ℕ, zero, suc, ◌<◌, ◌≤◌, ◌+◌, ◌*◌, ◌/◌, ◌%◌, true, List, [], ◌∷◌, ◌++◌, length, take, get_or, refl, ap, ◌∙◌, length-append, arith}
use Rattle.std.proofs.lemmas.List.{take_all}
use Rattle.std.proofs.lemmas.List.Sums.{sum_by-append}
use Rattle.rga_tree.specs.declared.element.Element.{Element}
use Rattle.rga_tree.specs.Spot.{seen, seen_all}
use Rattle.rga_runs.specs.declared.stretch.Stretch.{Stretch}
use Rattle.rga_runs.specs.Stretches.{parts_in, are_stored, visible_in, visible_of}
use Rattle.rga_runs.specs.Blocks.{row_of}
use Rattle.rga_runs.specs.Filled.{filled_to, filled}
use Rattle.rga_runs.proofs.Rows.{length-parts, stored_left, stored_right, seen_front}

pub length-filled : (n : ℕ) (xs : List (List Element)) → length (filled_to n xs) ≡ n
length-filled zero xs = refl
length-filled (suc n) [] = ap suc (length-filled n [])
length-filled (suc n) (x ∷ xs) = ap suc (length-filled n xs)

nothing_there : (n j : ℕ) → get_or (filled_to n []) j [] ≡ []
nothing_there zero zero = refl
nothing_there zero (suc j) = refl
nothing_there (suc n) zero = refl
nothing_there (suc n) (suc j) = nothing_there n j

get_or-filled : (n : ℕ) (xs : List (List Element)) (j : ℕ) → length xs ≤ n → get_or (filled_to n xs) j [] ≡ get_or xs j []
get_or-filled n [] zero few = nothing_there n zero
get_or-filled n [] (suc j) few = nothing_there n (suc j)
get_or-filled zero (x ∷ xs) j few = absurd (omega (arith, few))
get_or-filled (suc n) (x ∷ xs) zero few = refl
get_or-filled (suc n) (x ∷ xs) (suc j) few = get_or-filled n xs j (omega (arith, few))

nothing_seen : (n j : ℕ) → seen_all (take j (filled_to n [])) ≡ 0
nothing_seen zero zero = refl
nothing_seen zero (suc j) = refl
nothing_seen (suc n) zero = refl
nothing_seen (suc n) (suc j) = omega (arith, nothing_seen n j)

seen-filled : (n : ℕ) (xs : List (List Element)) (j : ℕ) → length xs ≤ n → seen_all (take j (filled_to n xs)) ≡ seen_all (take j xs)
seen-filled n [] zero few = nothing_seen n zero
seen-filled n [] (suc j) few = nothing_seen n (suc j)
seen-filled zero (x ∷ xs) j few = absurd (omega (arith, few))
seen-filled (suc n) (x ∷ xs) zero few = refl
seen-filled (suc n) (x ∷ xs) (suc j) few = ap (λ m. seen x + m) (seen-filled n xs j (omega (arith, few)))

-- ---- lists one behind the other

get_or-front : (l r : List (List Element)) (j : ℕ) → j < length l → get_or (l ++ r) j [] ≡ get_or l j []
get_or-front [] r j less = absurd (omega (arith, less))
get_or-front (x ∷ l) r zero less = refl
get_or-front (x ∷ l) r (suc j) less = get_or-front l r j (omega (arith, less))

get_or-behind : (l r : List (List Element)) (n j : ℕ) → length l ≡ n → get_or (l ++ r) (n + j) [] ≡ get_or r j []
get_or-behind [] r n j long = ap (λ m. get_or r m []) (omega (arith, long))
get_or-behind (x ∷ l) r zero j long = absurd (omega (arith, long))
get_or-behind (x ∷ l) r (suc n) j long = let e : suc n + j ≡ suc (n + j) = omega arith in rw e (get_or-behind l r n j (omega (arith, long)))

seen-front : (l r : List (List Element)) (j : ℕ) → j ≤ length l → seen_all (take j (l ++ r)) ≡ seen_all (take j l)
seen-front [] r zero less = refl
seen-front [] r (suc j) less = absurd (omega (arith, less))
seen-front (x ∷ l) r zero less = refl
seen-front (x ∷ l) r (suc j) less = ap (λ m. seen x + m) (seen-front l r j (omega (arith, less)))

seen-behind : (l r : List (List Element)) (n j : ℕ) → length l ≡ n → seen_all (take (n + j) (l ++ r)) ≡ seen_all (take n l) + seen_all (take j r)
seen-behind [] r zero j long = let e : 0 + j ≡ j = omega arith in rw e (omega arith)
seen-behind [] r (suc n) j long = absurd (omega (arith, long))
seen-behind (x ∷ l) r zero j long = absurd (omega (arith, long))
seen-behind (x ∷ l) r (suc n) j long = let e : suc n + j ≡ suc (n + j) = omega arith in rw e (omega (arith, seen-behind l r n j (omega (arith, long))))

-- ---- those of all blocks

pub part_filled : (chars : List ℕ) (xs : List (List Stretch)) (b j : ℕ) → ((c : ℕ) → c < length xs → length (get_or xs c []) ≤ 256) → b < length xs → j < 256
    → get_or (filled chars xs) (256 * b + j) [] ≡ get_or (parts_in chars (get_or xs b [])) j []
part_filled chars [] b j few there less = absurd (omega (arith, there))
part_filled chars (x ∷ xs) zero j few there less =
    let f = filled_to 256 (parts_in chars x) in
    let e : 256 * 0 + j ≡ j = omega arith in
    rw e (get_or-front f (filled chars xs) j (omega (arith, length-filled 256 (parts_in chars x), less)) ∙ get_or-filled 256 (parts_in chars x) j (omega (arith, length-parts chars x, few 0 (omega arith))))
part_filled chars (x ∷ xs) (suc b) j few there less =
    let e : 256 * suc b + j ≡ 256 + (256 * b + j) = omega arith in
    rw e (get_or-behind (filled_to 256 (parts_in chars x)) (filled chars xs) 256 (256 * b + j) (length-filled 256 (parts_in chars x))
    ∙ part_filled chars xs b j (λ c small. few (suc c) (omega (arith, small))) (omega (arith, there)) less)

pub length-parts_filled : (chars : List ℕ) (xs : List (List Stretch)) → length (filled chars xs) ≡ 256 * length xs
length-parts_filled chars [] = omega arith
length-parts_filled chars (x ∷ xs) = omega (arith, length-append (filled_to 256 (parts_in chars x)) (filled chars xs), length-filled 256 (parts_in chars x), length-parts_filled chars xs)

-- how many are visible before stretch j of block b
pub seen_filled : (chars : List ℕ) (xs : List (List Stretch)) (b j : ℕ) → are_stored (length chars) (row_of xs) ≡ true → ((c : ℕ) → c < length xs → length (get_or xs c []) ≤ 256) → b < length xs → j ≤ 256
    → seen_all (take (256 * b + j) (filled chars xs)) ≡ visible_in (row_of (take b xs)) + visible_in (take j (get_or xs b []))
seen_filled chars [] b j stored few there less = absurd (omega (arith, there))
seen_filled chars (x ∷ xs) zero j stored few there less =
    let ps = parts_in chars x in
    let f = filled_to 256 ps in
    let e : 256 * 0 + j ≡ j = omega arith in
    rw e (seen-front f (filled chars xs) j (omega (arith, length-filled 256 ps, less)) ∙ seen-filled 256 ps j (omega (arith, length-parts chars x, few 0 (omega arith)))
    ∙ seen_front chars x j (stored_left (length chars) x (row_of xs) stored) ∙ omega arith)
seen_filled chars (x ∷ xs) (suc b) j stored few there less =
    let ps = parts_in chars x in
    let f = filled_to 256 ps in
    let e : 256 * suc b + j ≡ 256 + (256 * b + j) = omega arith in
    let rest = seen_filled chars xs b j (stored_right (length chars) x (row_of xs) stored) (λ c small. few (suc c) (omega (arith, small))) (omega (arith, there)) less in
    let here : seen_all (take 256 f) ≡ visible_in x =
    seen-filled 256 ps 256 (omega (arith, length-parts chars x, few 0 (omega arith))) ∙ seen_front chars x 256 (stored_left (length chars) x (row_of xs) stored)
    ∙ ap visible_in (take_all 256 x (few 0 (omega arith))) in
    rw e (seen-behind f (filled chars xs) 256 (256 * b + j) (length-filled 256 ps) ∙ omega (arith, here, rest, sum_by-append visible_of x (row_of (take b xs))))

-- the part of a number
pub part_at : (chars : List ℕ) (xs : List (List Stretch)) (p : ℕ) → ((c : ℕ) → c < length xs → length (get_or xs c []) ≤ 256) → p < 256 * length xs
    → get_or (filled chars xs) p [] ≡ get_or (parts_in chars (get_or xs (p / 256) [])) (p % 256) []
part_at chars xs p few less =
    let whole : p ≡ 256 * (p / 256) + p % 256 = omega arith in
    ap (λ n. get_or (filled chars xs) n []) whole ∙ part_filled chars xs (p / 256) (p % 256) few (omega (arith, less)) (omega arith)
