-- Pieces of a line, each as the block of its clusters.
use Rattle.std.proofs.Common.{ℕ, zero, suc, ◌≡◌, ◌+◌, ◌-◌, ◌<◌, refl, ap, sym, ◌∙◌, List, [], ◌∷◌, ◌++◌, map, length, get_or, take, replicate, reverse, Bool, true, false, min, max, append_assoc, add-zero, arith}
use Rattle.std.specs.Prelude.{if◌then◌else◌}
use Rattle.std.specs.List.{AllByRecursion, flat_map, enumerate_from, range_with_len}
use Rattle.std.proofs.lemmas.List.{map-append, reverse-append, length-map, length-replicate, length_push, get_or_at}
use Rattle.std.proofs.lemmas.List.FromFn.{length-enumerate_from}
use Rattle.std.proofs.lemmas.List.Sums.{sum_by-cons}
use Rattle.reorder.specs.VisualList.{Cluster, numbers, is_odd, greatest, lowest_odd, reversed_from, arranged}
use Rattle.reorder.specs.Pieces.{LevelPiece, no_piece, count_of, levels_of}
use Rattle.reorder.proofs.Rounds.{reverse-cons}
use Rattle.reorder.proofs.Rearranged.{numbers-enumerate_from}
use Rattle.reorder.proofs.Blocks.{turned, IsBlock}

-- a piece with clusters
abbrev pub HasSome : LevelPiece → Type 0
HasSome p = 0 < p.count

-- the levels of the pieces
abbrev pub own_levels : List LevelPiece → List ℕ
own_levels pieces = map (λ (p : LevelPiece). p.level) pieces

-- the clusters' levels and the pieces' have one greatest and one lowest odd level

greatest-repeated : (n level : ℕ) (rest : List ℕ) → 0 < n → greatest (replicate n level ++ rest) ≡ max level (greatest rest)
greatest-repeated zero level rest some = absurd (omega arith)
greatest-repeated (suc zero) level rest some = refl
greatest-repeated (suc (suc n)) level rest some =
    let again : max level (max level (greatest rest)) ≡ max level (greatest rest) = omega arith in
    ap (λ (l : ℕ). max level l) (greatest-repeated (suc n) level rest (omega arith)) ∙ again

greatest-levels : (pieces : List LevelPiece) → AllByRecursion HasSome pieces → greatest (levels_of pieces) ≡ greatest (own_levels pieces)
greatest-levels [] h = refl
greatest-levels (p ∷ ps) h = greatest-repeated p.count p.level (levels_of ps) h.0 ∙ ap (λ (l : ℕ). max p.level l) (greatest-levels ps h.1)

-- the lower one of a level that is odd and a number
abbrev lower : ℕ → ℕ → ℕ
lower level low = if is_odd level then min level low else low

lower-again : (odd : Bool) (level low : ℕ) →
    (if odd then min level (if odd then min level low else low) else (if odd then min level low else low)) ≡ (if odd then min level low else low)
lower-again true level low = omega arith
lower-again false level low = refl

lowest-repeated : (none n level : ℕ) (rest : List ℕ) → 0 < n → lowest_odd none (replicate n level ++ rest) ≡ lower level (lowest_odd none rest)
lowest-repeated none zero level rest some = absurd (omega arith)
lowest-repeated none (suc zero) level rest some = refl
lowest-repeated none (suc (suc n)) level rest some =
    ap (λ (l : ℕ). lower level l) (lowest-repeated none (suc n) level rest (omega arith)) ∙ lower-again (is_odd level) level (lowest_odd none rest)

lowest-levels : (none : ℕ) (pieces : List LevelPiece) → AllByRecursion HasSome pieces → lowest_odd none (levels_of pieces) ≡ lowest_odd none (own_levels pieces)
lowest-levels none [] h = refl
lowest-levels none (p ∷ ps) h = lowest-repeated none p.count p.level (levels_of ps) h.0 ∙ ap (λ (l : ℕ). lower p.level l) (lowest-levels none ps h.1)

pub same-rounds : (pieces : List LevelPiece) (cs : List Cluster) → AllByRecursion HasSome pieces → arranged (levels_of pieces) cs ≡ arranged (own_levels pieces) cs
unfolding arranged
same-rounds pieces cs h =
    ap (λ (top : ℕ). reversed_from (suc top - lowest_odd (suc top) (levels_of pieces)) (lowest_odd (suc top) (levels_of pieces)) cs) (greatest-levels pieces h)
    ∙ ap (λ (low : ℕ). reversed_from (suc (greatest (own_levels pieces)) - low) low cs) (lowest-levels (suc (greatest (own_levels pieces))) pieces h)

-- the block of a piece, the first of whose clusters has this number

abbrev pub block_from : ℕ → LevelPiece → List Cluster
block_from first p = enumerate_from first (replicate p.count p.level)

abbrev pub blocks_from : ℕ → List LevelPiece → List (List Cluster)
blocks_from first [] = []
blocks_from first (p ∷ ps) = block_from first p ∷ blocks_from (first + p.count) ps

-- the block that a piece stands for, by its number
abbrev pub block_in : List (List Cluster) → Cluster → List Cluster
block_in blocks c = get_or blocks c.0 []

enumerate_from-append : (first : ℕ) (xs ys : List ℕ) → enumerate_from first (xs ++ ys) ≡ enumerate_from first xs ++ enumerate_from (first + length xs) ys
enumerate_from-append first [] ys = ap (λ (n : ℕ). enumerate_from n ys) (sym (add-zero first))
enumerate_from-append first (x ∷ xs) ys =
    let n : first + 1 + length xs ≡ first + suc (length xs) = omega arith in
    ap (λ l. (first, x) ∷ l) (enumerate_from-append (first + 1) xs ys)
    ∙ ap (λ (k : ℕ). (first, x) ∷ (enumerate_from (first + 1) xs ++ enumerate_from k ys)) n

blocks-join : (first : ℕ) (pieces : List LevelPiece) → flat_map (λ (b : List Cluster). b) (blocks_from first pieces) ≡ enumerate_from first (levels_of pieces)
blocks-join first [] = refl
blocks-join first (p ∷ ps) =
    ap (λ l. block_from first p ++ l) (blocks-join (first + p.count) ps)
    ∙ ap (λ (n : ℕ). block_from first p ++ enumerate_from (first + n) (levels_of ps)) (sym (length-replicate p.count p.level))
    ∙ sym (enumerate_from-append first (replicate p.count p.level) (levels_of ps))

blocks-by_number : (done blocks : List (List Cluster)) (levels : List ℕ) → length levels ≡ length blocks →
    flat_map (block_in (done ++ blocks)) (enumerate_from (length done) levels) ≡ flat_map (λ (b : List Cluster). b) blocks
blocks-by_number done [] [] n = refl
blocks-by_number done [] (l ∷ levels) n = absurd (omega arith)
blocks-by_number done (b ∷ blocks) [] n = absurd (omega arith)
blocks-by_number done (b ∷ blocks) (l ∷ levels) n =
    ap (λ x. x ++ flat_map (block_in (done ++ b ∷ blocks)) (enumerate_from (length done + 1) levels)) (get_or_at done b blocks [] (length done) refl)
    ∙ ap (λ (all : List (List Cluster)). b ++ flat_map (block_in all) (enumerate_from (length done + 1) levels)) (sym (append_assoc done (b ∷ []) blocks))
    ∙ ap (λ (k : ℕ). b ++ flat_map (block_in ((done ++ b ∷ []) ++ blocks)) (enumerate_from k levels)) (sym (length_push done b))
    ∙ ap (λ x. b ++ x) (blocks-by_number (done ++ b ∷ []) blocks levels (omega arith))

length-blocks_from : (first : ℕ) (pieces : List LevelPiece) → length (blocks_from first pieces) ≡ length pieces
length-blocks_from first [] = refl
length-blocks_from first (p ∷ ps) = let rest = length-blocks_from (first + p.count) ps in omega arith

pub pieces-line : (pieces : List LevelPiece) → flat_map (block_in (blocks_from 0 pieces)) (enumerate_from 0 (own_levels pieces)) ≡ enumerate_from 0 (levels_of pieces)
pieces-line pieces =
    let n = length-blocks_from 0 pieces in
    let m = length-map pieces (λ (p : LevelPiece). p.level) in
    blocks-by_number [] (blocks_from 0 pieces) (own_levels pieces) (omega arith) ∙ blocks-join 0 pieces

-- the piece of this number

pub block-at : (first : ℕ) (pieces : List LevelPiece) (i : ℕ) → i < length pieces →
    get_or (blocks_from first pieces) i [] ≡ block_from (first + count_of (take i pieces)) (get_or pieces i no_piece)
block-at first [] i lt = absurd (omega arith)
block-at first (p ∷ ps) zero lt = ap (λ (n : ℕ). block_from n p) (sym (add-zero first))
block-at first (p ∷ ps) (suc i) lt =
    let n = sum_by-cons (λ (q : LevelPiece). q.count) p (take i ps) in
    let same : first + p.count + count_of (take i ps) ≡ first + count_of (p ∷ take i ps) = omega arith in
    block-at (first + p.count) ps i (omega arith) ∙ ap (λ (k : ℕ). block_from k (get_or ps i no_piece)) same

pub some-at : (pieces : List LevelPiece) (i : ℕ) → i < length pieces → AllByRecursion HasSome pieces → HasSome (get_or pieces i no_piece)
some-at [] i lt h = absurd (omega arith)
some-at (p ∷ ps) zero lt h = h.0
some-at (p ∷ ps) (suc i) lt h = some-at ps i (omega arith) h.1

same-level : (first n level : ℕ) → AllByRecursion (λ (z : Cluster). z.1 ≡ level) (enumerate_from first (replicate n level))
same-level first zero level = tt
same-level first (suc n) level = (refl, same-level (first + 1) n level)

pub IsBlock-from : (first : ℕ) (p : LevelPiece) → HasSome p → IsBlock p.level (block_from first p)
IsBlock-from first p some = record {
  some = let n = length-enumerate_from first (replicate p.count p.level) in let m = length-replicate p.count p.level in omega arith;
  same = same-level first p.count p.level;
}

numbers-reverse : (cs : List Cluster) → numbers (reverse cs) ≡ reverse (numbers cs)
numbers-reverse [] = refl
numbers-reverse (c ∷ cs) =
    ap numbers (reverse-cons c cs) ∙ map-append (λ (z : Cluster). z.0) (reverse cs) (c ∷ [])
    ∙ ap (λ l. l ++ c.0 ∷ []) (numbers-reverse cs) ∙ sym (reverse-append (c.0 ∷ []) (numbers cs))

pub numbers-turned : (odd : Bool) (first n level : ℕ) →
    numbers (turned odd (enumerate_from first (replicate n level))) ≡ (if odd then reverse (range_with_len first n) else range_with_len first n)
numbers-turned false first n level = numbers-enumerate_from first (replicate n level) ∙ ap (range_with_len first) (length-replicate n level)
numbers-turned true first n level =
    numbers-reverse (enumerate_from first (replicate n level))
    ∙ ap reverse (numbers-enumerate_from first (replicate n level) ∙ ap (range_with_len first) (length-replicate n level))
