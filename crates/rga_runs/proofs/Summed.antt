-- Sums of neighbouring blocks, as blocks change, and what they tell of the blocks before a place.
use Rattle.std.proofs.Common.{◌≡◌, ◌≢◌, ℕ, zero, suc, ◌<◌, ◌≤◌, ◌+◌, ◌-◌, ◌*◌, ◌/◌, ◌++◌, ◌^◌, Bool, true, false, List, [], ◌∷◌, length, take, drop, get_or, sum, refl, sym, ap, subst, ◌∙◌, zero-add, length-set, arith}
use Rattle.std.specs.Prelude.{insert, set, nat_lt, nat_eq, if◌then◌else◌}
use Rattle.std.proofs.lemmas.Bool.{ltb-true, ltb-false, eqb-true, eqb-false}
use Rattle.std.proofs.lemmas.List.{drop-set-lt, get_or-set_same, get_or-set_other, get_or_append_left, get_or_push, length_push, take_all, take-map, drop-map}
use Rattle.std.proofs.lemmas.List.Sums.{sum_by_more, sum_by-append, sum_by-insert, sum_by-set}
use Rattle.bg_types.specs.Identifier.{Identifier}
use Rattle.bg_types.specs.declared.op.Place.{Place}
use Rattle.rga_runs.specs.declared.stretch.Stretch.{Stretch}
use Rattle.rga_runs.specs.declared.block.Block.{Block}
use Rattle.rga_runs.specs.Changed.{IsLone}
use Rattle.rga_runs.specs.Typed.{unset}
use Rattle.rga_runs.specs.Stretches.{visible_in, visible_of}
use Rattle.rga_runs.specs.Blocks.{row_of}
use Rattle.rga_runs.specs.BlockRows.{items_of}
use Rattle.rga_runs.specs.Sums.{AreSums, AreSumsBut, visible_from}
use Rattle.rga_runs.proofs.BlockLists.{few_stretches}
use Rattle.rga_runs.proofs.Chunks.{split_long}
use Rattle.rga_runs.proofs.Sums.{sum_front, few_visible}

-- the visible characters of all these blocks
abbrev pub visible_all : List (List Stretch) → ℕ
visible_all xs = visible_in (row_of xs)

one_more : (x : List Stretch) (xs : List (List Stretch)) → visible_all (x ∷ xs) ≡ visible_in x + visible_all xs
one_more x xs = sum_by-append visible_of x (row_of xs)

pub visible-add : (xs : List (List Stretch)) (m k : ℕ) → visible_all (take (m + k) xs) ≡ visible_all (take m xs) + visible_all (take k (drop m xs))
visible-add xs zero k = rw (zero-add k) (sym (zero-add (visible_all (take k xs))))
visible-add [] (suc m) k = let e : suc m + k ≡ suc (m + k) = omega arith in rw e (none k) where
  none : (k : ℕ) → visible_all [] ≡ visible_all [] + visible_all (take k [])
  none zero = omega arith
  none (suc k) = omega arith
visible-add (x ∷ xs) (suc m) k =
    let e : suc m + k ≡ suc (m + k) = omega arith in
    rw e (omega (arith, one_more x (take (m + k) xs), one_more x (take m xs), visible-add xs m k))

-- they are fewer than a number of 64 bits
pub few_seen : (bs : List Block) → length bs < 2 ^ 32 → visible_all (items_of bs) + 24 < 2 ^ 64
few_seen bs few = omega (arith, few, few_stretches bs, few_visible (row_of (items_of bs)))

-- ---- some neighbours among all blocks

abbrev pub visible_among : List (List Stretch) → ℕ → ℕ
visible_among xs g = visible_from xs (32 * g) 32

pub visible_from-within : (xs : List (List Stretch)) (m n : ℕ) → visible_from xs m n ≤ visible_all xs
visible_from-within xs m n = omega (arith, visible-add xs m n, sum_front visible_of xs (m + n))

-- the last one of them, and the first one
pub visible_from-last : (xs : List (List Stretch)) (m n p : ℕ) → p ≡ m + n → p < length xs → visible_from xs m (suc n) ≡ visible_from xs m n + visible_in (get_or xs p [])
visible_from-last [] m n p is there = absurd (omega (arith, there))
visible_from-last (x ∷ xs) zero zero zero is there = omega (arith, one_more x (take zero xs))
visible_from-last (x ∷ xs) zero zero (suc p) is there = absurd (omega (arith, is))
visible_from-last (x ∷ xs) zero (suc n) zero is there = absurd (omega (arith, is))
visible_from-last (x ∷ xs) zero (suc n) (suc p) is there =
    omega (arith, one_more x (take (suc n) xs), one_more x (take n xs), visible_from-last xs zero n p (omega (arith, is)) (omega (arith, there)))
visible_from-last (x ∷ xs) (suc m) n zero is there = absurd (omega (arith, is))
visible_from-last (x ∷ xs) (suc m) n (suc p) is there = visible_from-last xs m n p (omega (arith, is)) (omega (arith, there))

visible_from-first : (xs : List (List Stretch)) (m n : ℕ) → m < length xs → visible_from xs m (suc n) ≡ visible_in (get_or xs m []) + visible_from xs (suc m) n
visible_from-first [] m n there = absurd (omega (arith, there))
visible_from-first (x ∷ xs) zero n there = omega (arith, one_more x (take n xs))
visible_from-first (x ∷ xs) (suc m) n there = visible_from-first xs m n (omega (arith, there))

pub visible_among-within : (xs : List (List Stretch)) (g : ℕ) → visible_among xs g ≤ visible_all xs
visible_among-within xs g = omega (arith, visible-add xs (32 * g) 32, sum_front visible_of xs (32 * g + 32))

pub weight_le : (hidden : Bool) → (if hidden then 0 else 1) ≤ 1
weight_le true = omega arith
weight_le false = omega arith

-- ---- where one block changes

visible_within : (xs : List (List Stretch)) (m n q : ℕ) (y : List Stretch) → m ≤ q → q < m + n → q < length xs
    → visible_all (take n (drop m (set xs q y))) + visible_in (get_or xs q []) ≡ visible_all (take n (drop m xs)) + visible_in y
visible_within [] m n q y low high there = absurd (omega (arith, there))
visible_within (x ∷ xs) zero zero q y low high there = absurd (omega (arith, high))
visible_within (x ∷ xs) zero (suc n) zero y low high there = omega (arith, one_more y (take n xs), one_more x (take n xs))
visible_within (x ∷ xs) zero (suc n) (suc q) y low high there =
    omega (arith, one_more x (take n (set xs q y)), one_more x (take n xs), visible_within xs zero n q y (omega arith) (omega (arith, high)) (omega (arith, there)))
visible_within (x ∷ xs) (suc m) n zero y low high there = absurd (omega (arith, low))
visible_within (x ∷ xs) (suc m) n (suc q) y low high there = visible_within xs m n q y (omega (arith, low)) (omega (arith, high)) (omega (arith, there))

visible_behind : (xs : List (List Stretch)) (m n q : ℕ) (y : List Stretch) → m + n ≤ q → visible_all (take n (drop m (set xs q y))) ≡ visible_all (take n (drop m xs))
visible_behind [] m n zero y far = refl
visible_behind [] m n (suc q) y far = refl
visible_behind (x ∷ xs) zero zero q y far = refl
visible_behind (x ∷ xs) zero (suc n) zero y far = absurd (omega (arith, far))
visible_behind (x ∷ xs) zero (suc n) (suc q) y far = omega (arith, one_more x (take n (set xs q y)), one_more x (take n xs), visible_behind xs zero n q y (omega (arith, far)))
visible_behind (x ∷ xs) (suc m) n zero y far = absurd (omega (arith, far))
visible_behind (x ∷ xs) (suc m) n (suc q) y far = visible_behind xs m n q y (omega (arith, far))

visible_among-other : (xs : List (List Stretch)) (g q : ℕ) (y : List Stretch) → g ≢ q / 32 → visible_among (set xs q y) g ≡ visible_among xs g
visible_among-other xs g q y apart = by_front (nat_lt q (32 * g)) refl where
  by_end : 32 * g ≤ q → (b : Bool) → nat_lt q (32 * g + 32) ≡ b → visible_among (set xs q y) g ≡ visible_among xs g
  by_end low true is = let high : q < 32 * g + 32 = ltb-true _ _ is in absurd (apart (omega (arith, low, high)))
  by_end low false is = visible_behind xs (32 * g) 32 q y (ltb-false _ _ is)

  by_front : (b : Bool) → nat_lt q (32 * g) ≡ b → visible_among (set xs q y) g ≡ visible_among xs g
  by_front true is = ap (λ r. visible_all (take 32 r)) (drop-set-lt (32 * g) xs q y (ltb-true _ _ is))
  by_front false is = by_end (ltb-false _ _ is) (nat_lt q (32 * g + 32)) refl

visible_among-own : (xs : List (List Stretch)) (q : ℕ) (y : List Stretch) → q < length xs → visible_among (set xs q y) (q / 32) + visible_in (get_or xs q []) ≡ visible_among xs (q / 32) + visible_in y
visible_among-own xs q y there = visible_within xs (32 * (q / 32)) 32 q y (omega arith) (omega arith) there

-- a block's characters are among those of its neighbours
pub visible_among-block : (xs : List (List Stretch)) (q : ℕ) → q < length xs → visible_in (get_or xs q []) ≤ visible_among xs (q / 32)
visible_among-block xs q there = omega (arith, visible_among-own xs q [] there)

sums-set : (ss : List ℕ) (xs : List (List Stretch)) (q v : ℕ) (y : List Stretch) → q / 32 < length ss → v ≡ visible_among (set xs q y) (q / 32) → AreSums ss xs → AreSums (set ss (q / 32) v) (set xs q y)
sums-set ss xs q v y there is are = record {
  whole = omega (arith, are.whole, length-set ss (q / 32) v, length-set xs q y);
  sums = λ g d less. by_group g d (omega (arith, less, length-set ss (q / 32) v)) (nat_eq g (q / 32)) refl;
} where
  by_group : (g d : ℕ) → g < length ss → (b : Bool) → nat_eq g (q / 32) ≡ b → get_or (set ss (q / 32) v) g d ≡ visible_among (set xs q y) g
  by_group g d less true same =
      let e : g ≡ q / 32 = eqb-true _ _ same in
      ap (λ k. get_or (set ss (q / 32) v) k d) e ∙ get_or-set_same ss (q / 32) v d there ∙ is ∙ ap (visible_among (set xs q y)) (sym e)
  by_group g d less false other =
      let apart : g ≢ q / 32 = eqb-false _ _ other in
      get_or-set_other ss (q / 32) g v d apart ∙ are.sums g d less ∙ sym (visible_among-other xs g q y apart)

-- more of its characters are visible, or fewer
pub sums-raised : (ss : List ℕ) (xs : List (List Stretch)) (q more : ℕ) (y : List Stretch) → q / 32 < length ss → q < length xs → visible_in y ≡ visible_in (get_or xs q []) + more
    → AreSums ss xs → AreSums (set ss (q / 32) (get_or ss (q / 32) 0 + more)) (set xs q y)
sums-raised ss xs q more y some there is are =
    sums-set ss xs q (get_or ss (q / 32) 0 + more) y some (omega (arith, are.sums (q / 32) 0 some, visible_among-own xs q y there, is)) are

pub sums-lowered : (ss : List ℕ) (xs : List (List Stretch)) (q fewer : ℕ) (y : List Stretch) → q / 32 < length ss → q < length xs → visible_in y + fewer ≡ visible_in (get_or xs q [])
    → AreSums ss xs → AreSums (set ss (q / 32) (get_or ss (q / 32) 0 - fewer)) (set xs q y)
sums-lowered ss xs q fewer y some there is are =
    sums-set ss xs q (get_or ss (q / 32) 0 - fewer) y some (omega (arith, are.sums (q / 32) 0 some, visible_among-own xs q y there, is)) are

-- or there is no sum of them
pub sums-kept : (ss : List ℕ) (xs : List (List Stretch)) (q : ℕ) (y : List Stretch) → length ss ≤ q / 32 → AreSums ss xs → AreSums ss (set xs q y)
sums-kept ss xs q y none are = record {
  whole = omega (arith, are.whole, length-set xs q y);
  sums = λ g d less. are.sums g d less ∙ sym (visible_among-other xs g q y (λ e. omega (arith, e, less, none)));
}

-- or as many are
pub sums-same : (ss : List ℕ) (xs : List (List Stretch)) (q : ℕ) (y : List Stretch) → q < length xs → visible_in y ≡ visible_in (get_or xs q []) → AreSums ss xs → AreSums ss (set xs q y)
sums-same ss xs q y there is are = record {
  whole = omega (arith, are.whole, length-set xs q y);
  sums = λ g d less. by_group g d less (nat_eq g (q / 32)) refl;
} where
  by_group : (g d : ℕ) → g < length ss → (b : Bool) → nat_eq g (q / 32) ≡ b → get_or ss g d ≡ visible_among (set xs q y) g
  by_group g d less true same =
      let e : g ≡ q / 32 = eqb-true _ _ same in
      let own : visible_among (set xs q y) (q / 32) ≡ visible_among xs (q / 32) = omega (arith, visible_among-own xs q y there, is) in
      are.sums g d less ∙ ap (visible_among xs) e ∙ sym own ∙ ap (visible_among (set xs q y)) (sym e)
  by_group g d less false other = are.sums g d less ∙ sym (visible_among-other xs g q y (eqb-false _ _ other))

-- ---- where a block is split

visible_before : (xs : List (List Stretch)) (q m n : ℕ) (low high : List Stretch) → q < length xs → m + n ≤ q → visible_all (take n (drop m (insert (set xs q low) (suc q) high))) ≡ visible_all (take n (drop m xs))
visible_before [] q m n low high there far = absurd (omega (arith, there))
visible_before (x ∷ xs) q zero zero low high there far = refl
visible_before (x ∷ xs) zero zero (suc n) low high there far = absurd (omega (arith, far))
visible_before (x ∷ xs) zero (suc m) n low high there far = absurd (omega (arith, far))
visible_before (x ∷ xs) (suc q) zero (suc n) low high there far =
    omega (arith, one_more x (take n (insert (set xs q low) (suc q) high)), one_more x (take n xs), visible_before xs q zero n low high (omega (arith, there)) (omega (arith, far)))
visible_before (x ∷ xs) (suc q) (suc m) n low high there far = visible_before xs q m n low high (omega (arith, there)) (omega (arith, far))

visible_halved : (xs : List (List Stretch)) (q m n : ℕ) (low high : List Stretch) → q < length xs → m ≤ q → q < m + n → visible_in low + visible_in high ≡ visible_in (get_or xs q [])
    → visible_from (insert (set xs q low) (suc q) high) m (suc n) ≡ visible_from xs m n
visible_halved [] q m n low high there front end halves = absurd (omega (arith, there))
visible_halved (x ∷ xs) q zero zero low high there front end halves = absurd (omega (arith, end))
visible_halved (x ∷ xs) zero zero (suc n) low high there front end halves =
    omega (arith, one_more low (high ∷ take n xs), one_more high (take n xs), one_more x (take n xs), halves)
visible_halved (x ∷ xs) zero (suc m) n low high there front end halves = absurd (omega (arith, front))
visible_halved (x ∷ xs) (suc q) zero (suc n) low high there front end halves =
    omega (arith, one_more x (take (suc n) (insert (set xs q low) (suc q) high)), one_more x (take n xs), visible_halved xs q zero n low high (omega (arith, there)) (omega arith) (omega (arith, end)) halves)
visible_halved (x ∷ xs) (suc q) (suc m) n low high there front end halves = visible_halved xs q m n low high (omega (arith, there)) (omega (arith, front)) (omega (arith, end)) halves

visible_past : (xs : List (List Stretch)) (q m n : ℕ) (low high : List Stretch) → q < length xs → q < m → visible_from (insert (set xs q low) (suc q) high) (suc m) n ≡ visible_from xs m n
visible_past [] q m n low high there far = absurd (omega (arith, there))
visible_past (x ∷ xs) q zero n low high there far = absurd (omega (arith, far))
visible_past (x ∷ xs) zero (suc m) n low high there far = refl
visible_past (x ∷ xs) (suc q) (suc m) n low high there far = visible_past xs q m n low high (omega (arith, there)) (omega (arith, far))

-- the sums of those before it stay, and behind it each is of the blocks one further on
pub sums-split : (ss : List ℕ) (xs : List (List Stretch)) (q : ℕ) (low high : List Stretch) → q < length xs → get_or xs q [] ≡ low ++ high → AreSums ss xs → AreSumsBut (q / 32) 0 ss (insert (set xs q low) (q + 1) high)
sums-split ss xs q low high there halved are = subst (λ k. AreSumsBut (q / 32) 0 ss (insert (set xs q low) k high)) (sym e) but where
  e : q + 1 ≡ suc q
  e = omega arith

  ys : List (List Stretch)
  ys = insert (set xs q low) (suc q) high

  halves : visible_in low + visible_in high ≡ visible_in (get_or xs q [])
  halves = sym (ap visible_in halved ∙ sum_by-append visible_of low high)

  own : visible_from ys (32 * (q / 32)) 33 ≡ visible_from xs (32 * (q / 32)) 32
  own = visible_halved xs q (32 * (q / 32)) 32 low high there (omega arith) (omega arith) halves

  further : (g : ℕ) → q / 32 < g → visible_from ys (32 * g + 1) 32 ≡ visible_from xs (32 * g) 32
  further g far =
      let next : 32 * g + 1 ≡ suc (32 * g) = omega arith in
      ap (λ k. visible_from ys k 32) next ∙ visible_past xs q (32 * g) 32 low high there (omega (arith, far))

  but : AreSumsBut (q / 32) 0 ss (insert (set xs q low) (suc q) high)
  but = record {
    whole = omega (arith, are.whole, ap (λ k. length (insert (set xs q low) k high)) (sym e), split_long xs q low high there);
    before = λ g d under less. are.sums g d less ∙ sym (visible_before xs q (32 * g) 32 low high there (omega (arith, under)));
    there = λ d less. omega (arith, are.sums (q / 32) d less, own);
    behind = λ g d far less. are.sums g d less ∙ sym (further g far);
  }

-- the last block of the neighbours counts to the next ones
pub sums-moved : (ss : List ℕ) (xs : List (List Stretch)) (n came gone v : ℕ) → n < length ss → gone ≡ visible_in (get_or xs (32 * (n + 1)) []) → v + gone ≡ get_or ss n 0 + came
    → AreSumsBut n came ss xs → AreSumsBut (n + 1) gone (set ss n v) xs
sums-moved ss xs n came gone v there gone_is is but = record {
  whole = omega (arith, but.whole, length-set ss n v);
  before = λ g d under less. by_place g d under (omega (arith, less, length-set ss n v)) (nat_lt g n) refl;
  there = λ d less.
      let some : n + 1 < length ss = omega (arith, less, length-set ss n v) in
      let own = get_or-set_other ss n (n + 1) v d (λ e. omega (arith, e)) ∙ but.behind (n + 1) d (omega arith) some in
      let first : visible_from xs (32 * (n + 1)) 33 ≡ visible_in (get_or xs (32 * (n + 1)) []) + visible_from xs (suc (32 * (n + 1))) 32 = visible_from-first xs (32 * (n + 1)) 32 within in
      omega (arith, own, gone_is, first, ap (λ k. visible_from xs k 32) next);
  behind = λ g d far less. get_or-set_other ss n g v d (λ e. omega (arith, e, far)) ∙ but.behind g d (omega (arith, far)) (omega (arith, less, length-set ss n v));
} where
  within : 32 * (n + 1) < length xs
  within = omega (arith, there, but.whole)

  next : 32 * (n + 1) + 1 ≡ suc (32 * (n + 1))
  next = omega arith

  last : visible_from xs (32 * n) 33 ≡ visible_from xs (32 * n) 32 + visible_in (get_or xs (32 * (n + 1)) [])
  last = visible_from-last xs (32 * n) 32 (32 * (n + 1)) (omega arith) within

  own : v ≡ visible_from xs (32 * n) 32
  own = omega (arith, is, but.there 0 there, gone_is, last)

  by_place : (g d : ℕ) → g < n + 1 → g < length ss → (b : Bool) → nat_lt g n ≡ b → get_or (set ss n v) g d ≡ visible_from xs (32 * g) 32
  by_place g d under less true before =
      let far : g < n = ltb-true _ _ before in
      get_or-set_other ss n g v d (λ e. omega (arith, e, far)) ∙ but.before g d far less
  by_place g d under less false at =
      let late : n ≤ g = ltb-false _ _ at in
      let e : g ≡ n = omega (arith, late, under) in
      ap (λ k. get_or (set ss n v) k d) e ∙ get_or-set_same ss n v d there ∙ own ∙ ap (λ k. visible_from xs (32 * k) 32) (sym e)

-- what came, and the block that goes, are within all
pub sums-moving : (ss : List ℕ) (xs : List (List Stretch)) (n came : ℕ) → n < length ss → AreSumsBut n came ss xs
    → (get_or ss n 0 + came ≤ visible_all xs) × (visible_in (get_or xs (32 * (n + 1)) []) ≤ get_or ss n 0 + came)
sums-moving ss xs n came there but =
    let last : visible_from xs (32 * n) 33 ≡ visible_from xs (32 * n) 32 + visible_in (get_or xs (32 * (n + 1)) []) = visible_from-last xs (32 * n) 32 (32 * (n + 1)) (omega arith) (omega (arith, there, but.whole)) in
    (omega (arith, but.there 0 there, visible_from-within xs (32 * n) 33), omega (arith, but.there 0 there, last))

-- the next neighbours get a sum
pub sums-added : (ss : List ℕ) (xs : List (List Stretch)) (v : ℕ) → 32 * (length ss + 1) ≤ length xs → v ≡ visible_from xs (32 * length ss) 32 → AreSums ss xs → AreSums (ss ++ v ∷ []) xs
sums-added ss xs v many is are = record {
  whole = omega (arith, many, length_push ss v);
  sums = λ g d less. by_place g d (omega (arith, less, length_push ss v)) (nat_lt g (length ss)) refl;
} where
  by_place : (g d : ℕ) → g < length ss + 1 → (b : Bool) → nat_lt g (length ss) ≡ b → get_or (ss ++ v ∷ []) g d ≡ visible_from xs (32 * g) 32
  by_place g d less true before = let far : g < length ss = ltb-true _ _ before in get_or_append_left ss (v ∷ []) d g far ∙ are.sums g d far
  by_place g d less false at =
      let late : length ss ≤ g = ltb-false _ _ at in
      let e : length ss ≡ g = omega (arith, late, less) in
      get_or_push ss v d g e ∙ is ∙ ap (λ k. visible_from xs (32 * k) 32) e

-- ---- what is read

-- some blocks, as they are read
pub visible-read : (bs : List Block) (m n : ℕ) → visible_all (items_of (take n (drop m bs))) ≡ visible_all (take n (drop m (items_of bs)))
visible-read bs m n = ap visible_all (sym (take-map (λ (x : Block). x.stretches.items) n (drop m bs))) ∙ ap (λ r. visible_all (take n r)) (sym (drop-map (λ (x : Block). x.stretches.items) m bs))

pub visible_among-read : (bs : List Block) (g m n : ℕ) → m ≡ 32 * g → n ≡ 32 → visible_all (items_of (take n (drop m bs))) ≡ visible_among (items_of bs) g
visible_among-read bs g m n from many = (λ i. visible_all (items_of (take (many i) (drop (from i) bs)))) ∙ visible-read bs (32 * g) 32

-- the first sums together
pub sums-front : (ss : List ℕ) (xs : List (List Stretch)) (g : ℕ) → AreSums ss xs → g ≤ length ss → sum (take g ss) ≡ visible_all (take (32 * g) xs)
sums-front ss xs zero are within = omega arith
sums-front ss xs (suc g) are within =
    let s : suc g ≡ g + 1 = omega arith in
    let t : 32 * suc g ≡ 32 * g + 32 = omega arith in
    let more : sum (take (suc g) ss) ≡ sum (take g ss) + get_or ss g 0 = ap (λ k. sum (take k ss)) s ∙ sum_by_more (λ (n : ℕ). n) ss g 0 (omega (arith, within)) in
    let further : visible_all (take (32 * suc g) xs) ≡ visible_all (take (32 * g) xs) + visible_among xs g = ap (λ k. visible_all (take k xs)) t ∙ visible-add xs (32 * g) 32 in
    omega (arith, more, further, sums-front ss xs g are (omega (arith, within)), are.sums g 0 (omega (arith, within)))

-- all of them tell of no more than all blocks
pub sums-within : (ss : List ℕ) (xs : List (List Stretch)) → AreSums ss xs → sum ss ≤ visible_all xs
sums-within ss xs are = omega (arith, ap sum (take_all (length ss) ss (omega arith)), sums-front ss xs (length ss) are (omega arith), sum_front visible_of xs (32 * length ss))

-- and the blocks from there up to a place
pub sums-before : (ss : List ℕ) (bs : List Block) (g b : ℕ) → AreSums ss (items_of bs) → g ≤ length ss → 32 * g ≤ b → sum (take g ss) + visible_all (items_of (take (b - 32 * g) (drop (32 * g) bs))) ≡ visible_all (take b (items_of bs))
sums-before ss bs g b are within up_to =
    let s : 32 * g + (b - 32 * g) ≡ b = omega (arith, up_to) in
    let parted : visible_all (take b (items_of bs)) ≡ visible_all (take (32 * g) (items_of bs)) + visible_all (take (b - 32 * g) (drop (32 * g) (items_of bs))) =
    ap (λ k. visible_all (take k (items_of bs))) (sym s) ∙ visible-add (items_of bs) (32 * g) (b - 32 * g) in
    omega (arith, parted, sums-front ss (items_of bs) g are within, visible-read bs (32 * g) (b - 32 * g))

-- ---- how many characters of a block are visible

-- one stretch of one character more
pub visible-lone : (ss : List Stretch) (at : ℕ) (s : Stretch) (id : Identifier) (parent : Place) (start : ℕ) (hidden : Bool) → IsLone s id parent start hidden → visible_in (insert ss at s) ≡ visible_in ss + (if hidden then 0 else 1)
visible-lone ss at s id parent start hidden is =
    let own : visible_of s ≡ (if hidden then 0 else 1) = (λ i. unset (is.count i) (is.hidden_is i)) ∙ by_test hidden in
    omega (arith, sum_by-insert visible_of ss at s, own) where
      by_test : (b : Bool) → unset 1 (if b then 1 else 0) ≡ (if b then 0 else 1)
      by_test true = refl
      by_test false = refl

-- a stretch of which more are visible, or fewer
pub visible-raised : (ss : List Stretch) (j more : ℕ) (d new : Stretch) → j < length ss → visible_of new ≡ visible_of (get_or ss j d) + more → visible_in (set ss j new) ≡ visible_in ss + more
visible-raised ss j more d new there is = omega (arith, sum_by-set visible_of ss j new d there, is)

pub visible-lowered : (ss : List Stretch) (j fewer : ℕ) (d new : Stretch) → j < length ss → visible_of new + fewer ≡ visible_of (get_or ss j d) → visible_in (set ss j new) + fewer ≡ visible_in ss
visible-lowered ss j fewer d new there is = omega (arith, sum_by-set visible_of ss j new d there, is)

-- a stretch in two parts
pub visible-parted : (ss : List Stretch) (j : ℕ) (d low rest : Stretch) → j < length ss → visible_of low + visible_of rest ≡ visible_of (get_or ss j d) → visible_in (insert (set ss j low) (j + 1) rest) ≡ visible_in ss
visible-parted ss j d low rest there is = omega (arith, sum_by-insert visible_of (set ss j low) (j + 1) rest, sum_by-set visible_of ss j low d there, is)
