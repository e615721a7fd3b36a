-- How many characters stretches have, and how many of those are visible.
use Rattle.std.proofs.Common.{◌≡◌, ℕ, zero, suc, ◌<◌, ◌≤◌, ◌+◌, ◌*◌, List, [], ◌∷◌, length, take, drop, get_or, ap, ◌∙◌, arith}
use Rattle.std.specs.List.{sum_by}
use Rattle.std.proofs.Math.Seq.{take-add}
use Rattle.std.proofs.lemmas.List.Sums.{sum_by-cons, sum_by-append, sum_by-le, sum_by_more_le}
use Rattle.rga_runs.specs.declared.stretch.Stretch.{Stretch}
use Rattle.rga_runs.specs.Stretches.{count_in, visible_in, visible_of}
use Rattle.rga_runs.proofs.Bits.{unset_le}
use Rattle.rga_runs.proofs.Chunks.{row, at, take_row, row_take}
use Rattle.rga_runs.specs.declared.block.Block.{Block}
use Rattle.rga_runs.specs.BlockRows.{items_of}
use Rattle.rga_runs.proofs.BlockLists.{items_at}

module _ {X : Type 0} (f : X → ℕ) where
  pub sum_with_next : (xs : List X) (n : ℕ) (x : X) → n < length xs → x ≡ get_or xs n x → sum_by f (take n xs) + f x ≤ sum_by f xs
  sum_with_next xs n x there is = omega (arith, sum_by_more_le f xs n x there, ap f is)

  -- as many more as are read behind the first ones
  pub sum-behind : (xs : List X) (m n : ℕ) → sum_by f (take (m + n) xs) ≡ sum_by f (take m xs) + sum_by f (take n (drop m xs))
  sum-behind xs m n = ap (sum_by f) (take-add m n xs) ∙ sum_by-append f (take m xs) (take n (drop m xs))

  -- those before a spot
  pub sum_before : (xs : List (List X)) (b j : ℕ) → b < length xs → j ≤ length (get_or xs b []) → sum_by f (take (at xs b j) (row xs)) ≡ sum_by f (row (take b xs)) + sum_by f (take j (get_or xs b []))
  sum_before xs b j there within = ap (sum_by f) (take_row xs b j there within) ∙ sum_by-append f (row (take b xs)) (take j (get_or xs b []))

pub count_le : (s : Stretch) → s.count ≤ 24
count_le s = s.few

pub visible_le : (s : Stretch) → visible_of s ≤ 24
visible_le s = let few = s.few in omega (arith, few, unset_le s.count s.hidden)

pub few_counted : (ss : List Stretch) → count_in ss ≤ 24 * length ss
few_counted ss = omega (arith, sum_by-le (λ (s : Stretch). s.count) 24 ss (λ k d less. count_le (get_or ss k d)))

pub few_visible : (ss : List Stretch) → visible_in ss ≤ 24 * length ss
few_visible ss = omega (arith, sum_by-le visible_of 24 ss (λ k d less. visible_le (get_or ss k d)))

-- those of one block more
pub sum_next : (f : Stretch → ℕ) (bs : List Block) (b : ℕ) (x : Block) → b < length bs → x ≡ get_or bs b x
    → sum_by f (row (take (b + 1) (items_of bs))) ≡ sum_by f (row (take b (items_of bs))) + sum_by f x.stretches.items
sum_next f bs b x there is =
    let one_more : b + 1 ≡ suc b = omega arith in
    ap (λ n. sum_by f (row (take n (items_of bs)))) one_more ∙ ap (sum_by f) (row_take (items_of bs) b)
    ∙ sum_by-append f (row (take b (items_of bs))) (get_or (items_of bs) b []) ∙ ap (λ l. sum_by f (row (take b (items_of bs))) + sum_by f l) (items_at bs b x there is)

-- those of the first blocks
pub sum_front : (f : Stretch → ℕ) (xs : List (List Stretch)) (n : ℕ) → sum_by f (row (take n xs)) ≤ sum_by f (row xs)
sum_front f [] zero = omega arith
sum_front f [] (suc n) = omega arith
sum_front f (x ∷ xs) zero = omega arith
sum_front f (x ∷ xs) (suc n) = omega (arith, sum_by-append f x (row (take n xs)), sum_by-append f x (row xs), sum_front f xs n)

-- ---- where none is hidden

pub visible_in_le : (ss : List Stretch) → visible_in ss ≤ count_in ss
visible_in_le [] = omega arith
visible_in_le (s ∷ ss) = omega (arith, sum_by-cons visible_of s ss, sum_by-cons (λ (s : Stretch). s.count) s ss, unset_le s.count s.hidden, visible_in_le ss)

-- each of the first ones is visible
pub all_visible_front : (ss : List Stretch) (n : ℕ) → visible_in ss ≡ count_in ss → visible_in (take n ss) ≡ count_in (take n ss)
all_visible_front [] zero same = omega arith
all_visible_front [] (suc n) same = omega arith
all_visible_front (s ∷ ss) zero same = omega arith
all_visible_front (s ∷ ss) (suc n) same =
    let own = sum_by-cons visible_of s ss in
    let all = sum_by-cons (λ (s : Stretch). s.count) s ss in
    let rest : visible_in ss ≡ count_in ss = omega (arith, own, all, same, unset_le s.count s.hidden, visible_in_le ss) in
    omega (arith, sum_by-cons visible_of s (take n ss), sum_by-cons (λ (s : Stretch). s.count) s (take n ss), own, all, same, rest, all_visible_front ss n rest)

-- and so is each of one stretch
pub all_visible_at : (ss : List Stretch) (j : ℕ) (d : Stretch) → j < length ss → visible_in ss ≡ count_in ss → visible_of (get_or ss j d) ≡ (get_or ss j d).count
all_visible_at [] j d there same = absurd (omega arith)
all_visible_at (s ∷ ss) zero d there same =
    omega (arith, sum_by-cons visible_of s ss, sum_by-cons (λ (s : Stretch). s.count) s ss, same, unset_le s.count s.hidden, visible_in_le ss)
all_visible_at (s ∷ ss) (suc j) d there same =
    let rest : visible_in ss ≡ count_in ss = omega (arith, sum_by-cons visible_of s ss, sum_by-cons (λ (s : Stretch). s.count) s ss, same, unset_le s.count s.hidden, visible_in_le ss) in
    all_visible_at ss j d (omega (arith, there)) rest
