-- Sums of neighbouring blocks, as blocks change, and what they tell of the blocks before a place.
use Rattle.std.proofs.Common.{◌≡◌, ◌≢◌, ℕ, zero, suc, ◌<◌, ◌≤◌, ◌+◌, ◌-◌, ◌*◌, ◌/◌, Bool, true, false, List, [], ◌∷◌, length, take, drop, get_or, sum, refl, sym, ap, ◌∙◌, length-set, arith}
use Rattle.std.specs.Prelude.{insert, set, nat_lt, nat_eq}
use Rattle.std.proofs.lemmas.Bool.{ltb-true, ltb-false, eqb-true, eqb-false}
use Rattle.std.proofs.lemmas.List.{drop-set-lt, get_or-set_same, get_or-set_other, take-map, drop-map}
use Rattle.std.proofs.lemmas.List.Sums.{sum_by_more}
use Rattle.rga_tree.specs.declared.element.Element.{Element}
use Rattle.rga_sequence.specs.declared.block.Block.{Block}
use Rattle.rga_sequence.specs.Blocks.{seen, seen_all}
use Rattle.rga_sequence.specs.BlockRows.{items_of}
use Rattle.rga_sequence.specs.Sums.{AreSums, AreSumsBelow, seen_among}
use Rattle.rga_sequence.proofs.InFront.{seen_all-within}
use Rattle.rga_sequence.proofs.Nth.{seen_all-add}

-- ---- some neighbours among all blocks

pub seen_among-within : (xs : List (List Element)) (g : ℕ) → seen_among xs g ≤ seen_all xs
seen_among-within xs g = omega (arith, seen_all-add xs (32 * g) 32, seen_all-within xs (32 * g + 32))

-- ---- where one block changes

seen_within : (xs : List (List Element)) (m n q : ℕ) (y : List Element) → m ≤ q → q < m + n → q < length xs
    → seen_all (take n (drop m (set xs q y))) + seen (get_or xs q []) ≡ seen_all (take n (drop m xs)) + seen y
seen_within [] m n q y low high there = absurd (omega (arith, there))
seen_within (x ∷ xs) zero zero q y low high there = absurd (omega (arith, high))
seen_within (x ∷ xs) zero (suc n) zero y low high there = omega arith
seen_within (x ∷ xs) zero (suc n) (suc q) y low high there = omega (arith, seen_within xs zero n q y (omega arith) (omega (arith, high)) (omega (arith, there)))
seen_within (x ∷ xs) (suc m) n zero y low high there = absurd (omega (arith, low))
seen_within (x ∷ xs) (suc m) n (suc q) y low high there = seen_within xs m n q y (omega (arith, low)) (omega (arith, high)) (omega (arith, there))

seen_behind : (xs : List (List Element)) (m n q : ℕ) (y : List Element) → m + n ≤ q → seen_all (take n (drop m (set xs q y))) ≡ seen_all (take n (drop m xs))
seen_behind [] m n zero y far = refl
seen_behind [] m n (suc q) y far = refl
seen_behind (x ∷ xs) zero zero q y far = refl
seen_behind (x ∷ xs) zero (suc n) zero y far = absurd (omega (arith, far))
seen_behind (x ∷ xs) zero (suc n) (suc q) y far = ap (λ r. seen x + r) (seen_behind xs zero n q y (omega (arith, far)))
seen_behind (x ∷ xs) (suc m) n zero y far = absurd (omega (arith, far))
seen_behind (x ∷ xs) (suc m) n (suc q) y far = seen_behind xs m n q y (omega (arith, far))

seen_among-other : (xs : List (List Element)) (g q : ℕ) (y : List Element) → g ≢ q / 32 → seen_among (set xs q y) g ≡ seen_among xs g
seen_among-other xs g q y apart = by_front (nat_lt q (32 * g)) refl where
  by_end : 32 * g ≤ q → (b : Bool) → nat_lt q (32 * g + 32) ≡ b → seen_among (set xs q y) g ≡ seen_among xs g
  by_end low true is = let high : q < 32 * g + 32 = ltb-true _ _ is in absurd (apart (omega (arith, low, high)))
  by_end low false is = seen_behind xs (32 * g) 32 q y (ltb-false _ _ is)

  by_front : (b : Bool) → nat_lt q (32 * g) ≡ b → seen_among (set xs q y) g ≡ seen_among xs g
  by_front true is = ap (λ r. seen_all (take 32 r)) (drop-set-lt (32 * g) xs q y (ltb-true _ _ is))
  by_front false is = by_end (ltb-false _ _ is) (nat_lt q (32 * g + 32)) refl

seen_among-own : (xs : List (List Element)) (q : ℕ) (y : List Element) → q < length xs → seen_among (set xs q y) (q / 32) + seen (get_or xs q []) ≡ seen_among xs (q / 32) + seen y
seen_among-own xs q y there = seen_within xs (32 * (q / 32)) 32 q y (omega arith) (omega arith) there

-- a block's elements are among those of its neighbours
pub seen_among-block : (xs : List (List Element)) (q : ℕ) → q < length xs → seen (get_or xs q []) ≤ seen_among xs (q / 32)
seen_among-block xs q there = omega (arith, seen_among-own xs q [] there)

sums-set : (ss : List ℕ) (xs : List (List Element)) (q v : ℕ) (y : List Element) → q / 32 < length ss → v ≡ seen_among (set xs q y) (q / 32) → AreSums ss xs → AreSums (set ss (q / 32) v) (set xs q y)
sums-set ss xs q v y there is are = record {
  whole = omega (arith, are.whole, length-set ss (q / 32) v, length-set xs q y);
  sums = λ g d less. by_group g d (omega (arith, less, length-set ss (q / 32) v)) (nat_eq g (q / 32)) refl;
} where
  by_group : (g d : ℕ) → g < length ss → (b : Bool) → nat_eq g (q / 32) ≡ b → get_or (set ss (q / 32) v) g d ≡ seen_among (set xs q y) g
  by_group g d less true same =
      let e : g ≡ q / 32 = eqb-true _ _ same in
      ap (λ k. get_or (set ss (q / 32) v) k d) e ∙ get_or-set_same ss (q / 32) v d there ∙ is ∙ ap (seen_among (set xs q y)) (sym e)
  by_group g d less false other =
      let apart : g ≢ q / 32 = eqb-false _ _ other in
      get_or-set_other ss (q / 32) g v d apart ∙ are.sums g d less ∙ sym (seen_among-other xs g q y apart)

-- more of its elements are visible, or fewer
pub sums-raised : (ss : List ℕ) (xs : List (List Element)) (q more : ℕ) (y : List Element) → q / 32 < length ss → q < length xs → seen y ≡ seen (get_or xs q []) + more
    → AreSums ss xs → AreSums (set ss (q / 32) (get_or ss (q / 32) 0 + more)) (set xs q y)
sums-raised ss xs q more y some there is are =
    sums-set ss xs q (get_or ss (q / 32) 0 + more) y some (omega (arith, are.sums (q / 32) 0 some, seen_among-own xs q y there, is)) are

pub sums-lowered : (ss : List ℕ) (xs : List (List Element)) (q fewer : ℕ) (y : List Element) → q / 32 < length ss → q < length xs → seen y + fewer ≡ seen (get_or xs q [])
    → AreSums ss xs → AreSums (set ss (q / 32) (get_or ss (q / 32) 0 - fewer)) (set xs q y)
sums-lowered ss xs q fewer y some there is are =
    sums-set ss xs q (get_or ss (q / 32) 0 - fewer) y some (omega (arith, are.sums (q / 32) 0 some, seen_among-own xs q y there, is)) are

-- or there is no sum of them
pub sums-kept : (ss : List ℕ) (xs : List (List Element)) (q : ℕ) (y : List Element) → length ss ≤ q / 32 → AreSums ss xs → AreSums ss (set xs q y)
sums-kept ss xs q y none are = record {
  whole = omega (arith, are.whole, length-set xs q y);
  sums = λ g d less. are.sums g d less ∙ sym (seen_among-other xs g q y (λ e. omega (arith, e, less, none)));
}

-- ---- where a block is split

seen_before : (xs : List (List Element)) (q m n : ℕ) (low high : List Element) → q < length xs → m + n ≤ q → seen_all (take n (drop m (insert (set xs q low) (suc q) high))) ≡ seen_all (take n (drop m xs))
seen_before [] q m n low high there far = absurd (omega (arith, there))
seen_before (x ∷ xs) q zero zero low high there far = refl
seen_before (x ∷ xs) zero zero (suc n) low high there far = absurd (omega (arith, far))
seen_before (x ∷ xs) zero (suc m) n low high there far = absurd (omega (arith, far))
seen_before (x ∷ xs) (suc q) zero (suc n) low high there far = ap (λ r. seen x + r) (seen_before xs q zero n low high (omega (arith, there)) (omega (arith, far)))
seen_before (x ∷ xs) (suc q) (suc m) n low high there far = seen_before xs q m n low high (omega (arith, there)) (omega (arith, far))

-- the sums of those before it stay
pub sums-split : (ss : List ℕ) (xs : List (List Element)) (q : ℕ) (low high : List Element) → q < length xs → AreSums ss xs → AreSumsBelow (q / 32) ss (insert (set xs q low) (q + 1) high)
sums-split ss xs q low high there are = λ g d under less.
    let e : q + 1 ≡ suc q = omega arith in
    are.sums g d less ∙ sym (rw e (seen_before xs q (32 * g) 32 low high there (omega (arith, under))))

-- ---- what is read

-- the next sum is counted
pub sums-counted : (ss : List ℕ) (xs : List (List Element)) (g v : ℕ) → g < length ss → v ≡ seen_among xs g → AreSumsBelow g ss xs → AreSumsBelow (g + 1) (set ss g v) xs
sums-counted ss xs g v there is below = λ k d under less. by_place k d under (omega (arith, less, length-set ss g v)) (nat_lt k g) refl where
  by_place : (k d : ℕ) → k < g + 1 → k < length ss → (b : Bool) → nat_lt k g ≡ b → get_or (set ss g v) k d ≡ seen_among xs k
  by_place k d under less true before =
      let far : k < g = ltb-true _ _ before in
      get_or-set_other ss g k v d (λ e. omega (arith, e, far)) ∙ below k d far less
  by_place k d under less false at =
      let late : g ≤ k = ltb-false _ _ at in
      let e : k ≡ g = omega (arith, late, under) in
      ap (λ i. get_or (set ss g v) i d) e ∙ get_or-set_same ss g v d there ∙ is ∙ ap (seen_among xs) (sym e)

-- some blocks, as they are read
pub seen-read : (bs : List Block) (m n : ℕ) → seen_all (items_of (take n (drop m bs))) ≡ seen_all (take n (drop m (items_of bs)))
seen-read bs m n = ap seen_all (sym (take-map (λ (x : Block). x.elements.items) n (drop m bs))) ∙ ap (λ r. seen_all (take n r)) (sym (drop-map (λ (x : Block). x.elements.items) m bs))

pub seen_among-read : (bs : List Block) (g m n : ℕ) → m ≡ 32 * g → n ≡ 32 → seen_all (items_of (take n (drop m bs))) ≡ seen_among (items_of bs) g
seen_among-read bs g m n from many = (λ i. seen_all (items_of (take (many i) (drop (from i) bs)))) ∙ seen-read bs (32 * g) 32

-- the first sums together
pub sums-front : (ss : List ℕ) (xs : List (List Element)) (g : ℕ) → AreSums ss xs → g ≤ length ss → sum (take g ss) ≡ seen_all (take (32 * g) xs)
sums-front ss xs zero are within = refl
sums-front ss xs (suc g) are within =
    let s : suc g ≡ g + 1 = omega arith in
    let t : 32 * suc g ≡ 32 * g + 32 = omega arith in
    let more : sum (take (suc g) ss) ≡ sum (take g ss) + get_or ss g 0 = ap (λ k. sum (take k ss)) s ∙ sum_by_more (λ (n : ℕ). n) ss g 0 (omega (arith, within)) in
    let further : seen_all (take (32 * suc g) xs) ≡ seen_all (take (32 * g) xs) + seen_among xs g = ap (λ k. seen_all (take k xs)) t ∙ seen_all-add xs (32 * g) 32 in
    omega (arith, more, further, sums-front ss xs g are (omega (arith, within)), are.sums g 0 (omega (arith, within)))

-- and the blocks from there up to a place
pub sums-before : (ss : List ℕ) (bs : List Block) (g b : ℕ) → AreSums ss (items_of bs) → g ≤ length ss → 32 * g ≤ b → sum (take g ss) + seen_all (items_of (take (b - 32 * g) (drop (32 * g) bs))) ≡ seen_all (take b (items_of bs))
sums-before ss bs g b are within up_to =
    let s : 32 * g + (b - 32 * g) ≡ b = omega (arith, up_to) in
    let parted : seen_all (take b (items_of bs)) ≡ seen_all (take (32 * g) (items_of bs)) + seen_all (take (b - 32 * g) (drop (32 * g) (items_of bs))) =
    ap (λ k. seen_all (take k (items_of bs))) (sym s) ∙ seen_all-add (items_of bs) (32 * g) (b - 32 * g) in
    omega (arith, parted, sums-front ss (items_of bs) g are within, seen-read bs (32 * g) (b - 32 * g))
