-- The clusters of a part of a line.
use Rattle.std.proofs.Common.{ℕ, ◌≡◌, ◌+◌, ◌-◌, ◌<◌, ◌≤◌, ap, sym, ◌∙◌, subst, List, [], ◌∷◌, ◌++◌, length, get_or, take, drop, zero-add, arith, eqb, inl, inr}
use Rattle.std.specs.List.{enumerate_from, range_with_len, AllByRecursion, IsDistinct}
use Rattle.std.specs.List.Sorted.{IsPermutation}
use Rattle.std.proofs.lemmas.List.{take_all, length-take-le, length-drop, get_or-take, get_or-drop, take-append-drop, take-take, drop-take, drop-drop, same_lists, length-map, get_or-map}
use Rattle.std.proofs.lemmas.List.FromFn.{length-enumerate_from, get_or-enumerate_from, length-range_with_len, get_or-range_with_len}
use Rattle.std.proofs.lemmas.List.Elements.{All-from_get_or, recursion_from_All}
use Rattle.std.proofs.lemmas.List.Sorted.{IsPermutation-map, All-permutation}
use Rattle.std.proofs.lemmas.Map.Keys.{IsDistinct-IsPermutation, IsDistinct-from_apart}
use Rattle.std.proofs.lemmas.Bool.{cases_eq, eq-eqb, ne_eqb}
use Rattle.reorder.specs.VisualList.{Cluster, numbers, arranged}
use Rattle.reorder.specs.Links.{clusters_between}
use Rattle.reorder.proofs.Rounds.{High}
use Rattle.reorder.proofs.Rearranged.{arranged-permutes}

pub between-length : (levels : List ℕ) (a b : ℕ) → a ≤ b → b ≤ length levels → length (clusters_between levels a b) ≡ b - a
unfolding clusters_between
between-length levels a b le within =
    length-take-le (b - a) (drop a (enumerate_from 0 levels))
    (omega (arith, length-drop a (enumerate_from 0 levels), length-enumerate_from 0 levels))

pub between-get : (levels : List ℕ) (a b k : ℕ) (d : Cluster) → a ≤ b → b ≤ length levels → k < b - a →
    get_or (clusters_between levels a b) k d ≡ (a + k, get_or levels (a + k) d.1)
unfolding clusters_between
between-get levels a b k d le within lt =
    get_or-take (b - a) (drop a (enumerate_from 0 levels)) k d lt
    ∙ get_or-drop a (enumerate_from 0 levels) k d
    ∙ get_or-enumerate_from 0 levels (a + k) d (omega arith)
    ∙ ap (λ m. (m, get_or levels (a + k) d.1)) (zero-add (a + k))

pub between-append : (levels : List ℕ) (a b c : ℕ) → a ≤ b → b ≤ c → c ≤ length levels →
    clusters_between levels a c ≡ clusters_between levels a b ++ clusters_between levels b c
unfolding clusters_between
between-append levels a b c le le' within =
    let line = enumerate_from 0 levels in
    let count : c - a ≡ (b - a) + (c - b) = omega arith in
    let at : a + (b - a) ≡ b = omega arith in
    sym (take-append-drop (b - a) (take (c - a) (drop a line)))
    ∙ ap (λ l. l ++ drop (b - a) (take (c - a) (drop a line))) (take-take (b - a) (c - a) (drop a line) (omega arith))
    ∙ ap (λ n. take (b - a) (drop a line) ++ drop (b - a) (take n (drop a line))) count
    ∙ ap (λ l. take (b - a) (drop a line) ++ l) (drop-take (b - a) (c - b) (drop a line))
    ∙ ap (λ l. take (b - a) (drop a line) ++ take (c - b) l) (drop-drop (b - a) a line)
    ∙ ap (λ n. take (b - a) (drop a line) ++ take (c - b) (drop n line)) at

one-cluster : (xs : List Cluster) (x d : Cluster) → length xs ≡ 1 → get_or xs 0 d ≡ x → xs ≡ x ∷ []
one-cluster [] x d n e = absurd (omega arith)
one-cluster (y ∷ []) x d n e = ap (λ z. z ∷ []) e
one-cluster (y ∷ (z ∷ zs)) x d n e = absurd (omega arith)

pub between-one : (levels : List ℕ) (a : ℕ) → a < length levels →
    clusters_between levels a (a + 1) ≡ (a, get_or levels a 0) ∷ []
between-one levels a lt =
    let one : length (clusters_between levels a (a + 1)) ≡ a + 1 - a = between-length levels a (a + 1) (omega arith) (omega arith) in
    let at : a + 0 ≡ a = omega arith in
    one-cluster (clusters_between levels a (a + 1)) (a, get_or levels a 0) (0, 0) (omega arith)
    (between-get levels a (a + 1) 0 (0, 0) (omega arith) (omega arith) (omega arith)
    ∙ ap (λ k. (k, get_or levels k 0)) at)

pub between-all : (levels : List ℕ) → clusters_between levels 0 (length levels) ≡ enumerate_from 0 levels
unfolding clusters_between
between-all levels = take_all (length levels - 0) (enumerate_from 0 levels) (omega (arith, length-enumerate_from 0 levels))

pub between-high : (levels : List ℕ) (a b l : ℕ) → a ≤ b → b ≤ length levels →
    ((k : ℕ) → a ≤ k → k < b → l ≤ get_or levels k 0) → High l (clusters_between levels a b)
between-high levels a b l le within high =
    let n = between-length levels a b le within in
    recursion_from_All (λ (c : Cluster). l ≤ c.1) (clusters_between levels a b)
    (All-from_get_or (λ (c : Cluster). l ≤ c.1) (clusters_between levels a b) (0, 0)
    (λ k lt. subst (λ (c : Cluster). l ≤ c.1) (sym (between-get levels a b k (0, 0) le within (omega arith))) (high (a + k) (omega arith) (omega arith))))

pub between-numbers : (levels : List ℕ) (a b : ℕ) → a ≤ b → b ≤ length levels →
    numbers (clusters_between levels a b) ≡ range_with_len a (b - a)
between-numbers levels a b le within =
    let n = between-length levels a b le within in
    let m = length-map (clusters_between levels a b) (λ (c : Cluster). c.0) in
    let r = length-range_with_len a (b - a) in
    same_lists (numbers (clusters_between levels a b)) (range_with_len a (b - a)) (omega arith)
    (λ k d lt.
    let lt' : k < b - a = omega arith in
    get_or-map (λ (c : Cluster). c.0) (clusters_between levels a b) k (0, 0) d (omega arith)
    ∙ ap (λ (c : Cluster). c.0) (between-get levels a b k (0, 0) le within lt')
    ∙ sym (get_or-range_with_len a (b - a) k d lt'))

-- the numbers of an arranged part of a line

placed-permutes : (levels : List ℕ) (a b : ℕ) → a ≤ b → b ≤ length levels →
    IsPermutation (range_with_len a (b - a)) (numbers (arranged levels (clusters_between levels a b)))
placed-permutes levels a b le within =
    subst (λ ns. IsPermutation ns (numbers (arranged levels (clusters_between levels a b)))) (between-numbers levels a b le within)
    (IsPermutation-map (λ (c : Cluster). c.0) (clusters_between levels a b) (arranged levels (clusters_between levels a b))
    (arranged-permutes levels (clusters_between levels a b)))

abbrev pub Within : ℕ → ℕ → List ℕ → Type 0
Within a b xs = AllByRecursion (λ k. (a ≤ k) × (k < b)) xs

pub placed-within : (levels : List ℕ) (a b : ℕ) → a ≤ b → b ≤ length levels →
    Within a b (numbers (arranged levels (clusters_between levels a b)))
placed-within levels a b le within =
    let P : ℕ → Type 0 = λ k. (a ≤ k) × (k < b) in
    let r = length-range_with_len a (b - a) in
    recursion_from_All P (numbers (arranged levels (clusters_between levels a b)))
    (All-permutation P (range_with_len a (b - a)) (numbers (arranged levels (clusters_between levels a b))) (placed-permutes levels a b le within)
    (All-from_get_or P (range_with_len a (b - a)) 0
    (λ k lt. let lt' : k < b - a = omega arith in subst P (sym (get_or-range_with_len a (b - a) k 0 lt')) (omega arith, omega arith))))

eqb-flips : (x y : ℕ) → eqb x y ≡ eqb y x
eqb-flips x y = elim (cases_eq x y) [
  | inl e ↦ eq-eqb x y e ∙ sym (eq-eqb y x (sym e))
  | inr ne ↦ ne_eqb x y ne ∙ sym (ne_eqb y x (λ e. ne (sym e)))
]

pub range-distinct : (a n : ℕ) → IsDistinct eqb (range_with_len a n)
range-distinct a n =
    let r = length-range_with_len a n in
    IsDistinct-from_apart eqb (range_with_len a n)
    (λ i j d lt within.
    let at = get_or-range_with_len a n i d (omega arith) in
    let at' = get_or-range_with_len a n j d (omega arith) in
    ne_eqb (get_or (range_with_len a n) i d) (get_or (range_with_len a n) j d) (λ e. omega arith))

pub placed-distinct : (levels : List ℕ) (a b : ℕ) → a ≤ b → b ≤ length levels →
    IsDistinct eqb (numbers (arranged levels (clusters_between levels a b)))
placed-distinct levels a b le within =
    IsDistinct-IsPermutation eqb eqb-flips (range_with_len a (b - a)) (numbers (arranged levels (clusters_between levels a b)))
    (placed-permutes levels a b le within) (range-distinct a (b - a))
