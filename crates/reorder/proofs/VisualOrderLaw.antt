-- The visual-order law: the order of two clusters goes by the least level from one to the other.
use Rattle.std.proofs.Common.{ℕ, suc, ◌≡◌, ◌+◌, ◌-◌, ◌<◌, ◌≤◌, ◌%◌, refl, ap, sym, ◌∙◌, subst, inl, inr, ◌⊎◌, List, [], ◌∷◌, ◌++◌, map, length, get_or, drop, Bool, true, false, arith, eqb}
use Rattle.std.specs.Prelude.{slice_range}
use Rattle.std.specs.List.{AllByRecursion, IsDistinct, enumerate_from}
use Rattle.std.proofs.lemmas.Bool.{cases_lt, false_from_ne_true, eqb-false, ne_eqb, true≢false}
use Rattle.std.proofs.lemmas.List.{get_or-map, get_or-take, get_or-drop, length-take-le, length-drop, length-map, same_lists}
use Rattle.std.proofs.lemmas.List.Elements.{All-from_get_or, recursion_from_All}
use Rattle.std.proofs.lemmas.List.FromFn.{length-enumerate_from, get_or-enumerate_from}
use Rattle.reorder.specs.VisualList.{Cluster, numbers, is_odd, greatest, lowest_odd, reversed_from, arranged, visual_list}
use Rattle.reorder.specs.VisualOrder.{StandsLeft, least_level, least_between, VisualOrder}
use Rattle.reorder.specs.Links.{clusters_between}
use Rattle.reorder.proofs.Rounds.{High}
use Rattle.reorder.proofs.Arranged.{is_odd_count, count-parity, level-le-greatest, lowest-cases, lowest-le}
use Rattle.reorder.proofs.Between.{between-append, between-one, between-all, between-get, between-length, placed-distinct}
use Rattle.reorder.proofs.LeftOrder.{Order, IsLeast, line, order}
use Rattle.reorder.proofs.Least.{least-is}
use Rattle.reorder.proofs.Places.{left-places, not-both}

-- from the lowest odd level on

order-from-lowest : (top low : ℕ) (a : List Cluster) (x : Cluster) (m : List Cluster) (y : Cluster) (b : List Cluster) (least : ℕ) →
    IsLeast least x m y → least < top → (low ≡ top) ⊎ (is_odd low ≡ true) → (is_odd least ≡ true → low ≤ least) →
    Order (is_odd least) x y (reversed_from (top - low) low (line a x m y b))
order-from-lowest top low a x m y b least is below odd lowest =
    let done = order (top - low) low a x m y b least is (omega arith) in
    let count : is_odd_count (suc least - low) ≡ is_odd least = elim (cases_lt least low) [
      | inl lt ↦
          ap is_odd_count (let e : suc least - low ≡ 0 = omega arith in e)
          ∙ sym (false_from_ne_true (is_odd least) (λ o. (let le = lowest o in omega arith)))
      | inr ge ↦
          let o : is_odd low ≡ true = elim odd [ inl e ↦ absurd (omega arith) | inr o ↦ o ] in
          count-parity low (suc least - low) least o (omega arith)
    ] in
    subst (λ o. Order o x y (reversed_from (top - low) low (line a x m y b))) count done

-- every level of the line that is odd is at least the lowest odd one
ReachesLowest : ℕ → Cluster → Type 0
ReachesLowest low c = is_odd c.1 ≡ true → low ≤ c.1

each-left : (P : Cluster → Type 0) (p q : List Cluster) → AllByRecursion P (p ++ q) → AllByRecursion P p
each-left P [] q h = tt
each-left P (c ∷ p) q h = (h.0, each-left P p q h.1)

each-right : (P : Cluster → Type 0) (p q : List Cluster) → AllByRecursion P (p ++ q) → AllByRecursion P q
each-right P [] q h = h
each-right P (c ∷ p) q h = each-right P p q h.1

line-reaches : (levels : List ℕ) (none : ℕ) → AllByRecursion (ReachesLowest (lowest_odd none levels)) (enumerate_from 0 levels)
unfolding ReachesLowest
line-reaches levels none =
    let P : Cluster → Type 0 = λ c. is_odd c.1 ≡ true → lowest_odd none levels ≤ c.1 in
    let n = length-enumerate_from 0 levels in
    recursion_from_All P (enumerate_from 0 levels)
    (All-from_get_or P (enumerate_from 0 levels) (0, 0)
    (λ i lt. let lt' : i < length levels = omega arith in
    subst P (sym (get_or-enumerate_from 0 levels i (0, 0) lt')) (lowest-le none levels i lt')))

least-reaches : (low least : ℕ) (a : List Cluster) (x : Cluster) (m : List Cluster) (y : Cluster) (b : List Cluster) → IsLeast least x m y →
    AllByRecursion (ReachesLowest low) (line a x m y b) → is_odd least ≡ true → low ≤ least
unfolding ReachesLowest line
least-reaches low least a x m y b is all o =
    let P : Cluster → Type 0 = λ c. is_odd c.1 ≡ true → low ≤ c.1 in
    let from-x = each-right P a (x ∷ (m ++ y ∷ b)) all in
    elim is.met [
      | inl e ↦ subst (λ l. low ≤ l) (sym e) (from-x.0 (ap is_odd (sym e) ∙ o))
      | inr t ↦ elim t [
        | inl e ↦ subst (λ l. low ≤ l) (sym e) ((each-right P m (y ∷ b) from-x.1).0 (ap is_odd (sym e) ∙ o))
        | inr s ↦
            let in-m = subst (AllByRecursion P) s.is (each-left P m (y ∷ b) from-x.1) in
            let at : is_odd s.low.1 ≡ true → low ≤ s.low.1 = (each-right P s.front (s.low ∷ s.back) in-m).0 in
            let high = (each-right (λ (c : Cluster). least ≤ c.1) s.front (s.low ∷ s.back) (subst (High least) s.is is.at_m)).0 in
            let e : s.low.1 ≡ least = omega (arith, s.below, high) in
            subst (λ l. low ≤ l) e (at (ap is_odd e ∙ o))
      ]
    ]

-- the line, split at two clusters

between-levels : (levels : List ℕ) (a b : ℕ) → a ≤ b → b ≤ length levels →
    map (λ c. c.1) (clusters_between levels a b) ≡ slice_range levels a b
between-levels levels a b le within =
    let n = between-length levels a b le within in
    let m = length-map (clusters_between levels a b) (λ (c : Cluster). c.1) in
    let r : length (slice_range levels a b) ≡ b - a = length-take-le (b - a) (drop a levels) (omega (arith, length-drop a levels)) in
    same_lists (map (λ c. c.1) (clusters_between levels a b)) (slice_range levels a b) (omega arith)
    (λ k d lt.
    let lt' : k < b - a = omega arith in
    get_or-map (λ (c : Cluster). c.1) (clusters_between levels a b) k (0, d) d (omega arith)
    ∙ ap (λ (c : Cluster). c.1) (between-get levels a b k (0, d) le within lt')
    ∙ sym (get_or-drop a levels k d) ∙ sym (get_or-take (b - a) (drop a levels) k d lt'))

with-last : (levels : List ℕ) (i j : ℕ) → i < j → j < length levels →
    clusters_between levels (i + 1) (j + 1) ≡ clusters_between levels (i + 1) j ++ (j, get_or levels j 0) ∷ []
with-last levels i j lt within =
    between-append levels (i + 1) j (j + 1) (omega arith) (omega arith) (omega arith)
    ∙ ap (λ l. clusters_between levels (i + 1) j ++ l) (between-one levels j within)

between-first : (levels : List ℕ) (a b : ℕ) → a < b → b ≤ length levels →
    clusters_between levels a b ≡ (a, get_or levels a 0) ∷ clusters_between levels (a + 1) b
between-first levels a b lt within =
    between-append levels a (a + 1) b (omega arith) (omega arith) within
    ∙ ap (λ l. l ++ clusters_between levels (a + 1) b) (between-one levels a (omega arith))

line-at : (levels : List ℕ) (i j : ℕ) → List Cluster
line-at levels i j =
    line (clusters_between levels 0 i) (i, get_or levels i 0) (clusters_between levels (i + 1) j) (j, get_or levels j 0) (clusters_between levels (j + 1) (length levels))

line-at-is : (levels : List ℕ) (i j : ℕ) → i < j → j < length levels → line-at levels i j ≡ enumerate_from 0 levels
unfolding line-at line
line-at-is levels i j lt within =
    let n = length levels in
    sym (sym (between-all levels)
    ∙ between-append levels 0 i (length levels) (omega arith) (omega arith) (omega arith)
    ∙ ap (λ l. clusters_between levels 0 i ++ l)
    (between-first levels i (length levels) (omega arith) (omega arith)
    ∙ ap (λ l. (i, get_or levels i 0) ∷ l)
    (between-append levels (i + 1) j (length levels) (omega arith) (omega arith) (omega arith)
    ∙ ap (λ l. clusters_between levels (i + 1) j ++ l) (between-first levels j (length levels) within (omega arith)))))

least-at : (levels : List ℕ) (i j : ℕ) → i < j → j < length levels →
    least_level (get_or levels i 0) (map (λ c. c.1) (clusters_between levels (i + 1) j ++ (j, get_or levels j 0) ∷ [])) ≡ least_between levels i j
unfolding least_between
least-at levels i j lt within =
    ap (λ cs. least_level (get_or levels i 0) (map (λ c. c.1) cs)) (sym (with-last levels i j lt within))
    ∙ ap (least_level (get_or levels i 0)) (between-levels levels (i + 1) (j + 1) (omega arith) (omega arith))

arranged-order : (levels : List ℕ) (i j : ℕ) → i < j → j < length levels →
    Order (is_odd (least_between levels i j)) (i, get_or levels i 0) (j, get_or levels j 0) (arranged levels (enumerate_from 0 levels))
unfolding arranged line-at
arranged-order levels i j lt within =
    let a = clusters_between levels 0 i in
    let m = clusters_between levels (i + 1) j in
    let b = clusters_between levels (j + 1) (length levels) in
    let top = suc (greatest levels) in
    let low = lowest_odd (suc (greatest levels)) levels in
    let is : IsLeast (least_between levels i j) (i, get_or levels i 0) (clusters_between levels (i + 1) j) (j, get_or levels j 0) =
    subst (λ l. IsLeast l (i, get_or levels i 0) (clusters_between levels (i + 1) j) (j, get_or levels j 0)) (least-at levels i j lt within)
    (least-is (i, get_or levels i 0) (clusters_between levels (i + 1) j) (j, get_or levels j 0)) in
    let whole = line-at-is levels i j lt within in
    let le = level-le-greatest levels i (omega arith) in
    let reaches = subst (AllByRecursion (ReachesLowest (lowest_odd (suc (greatest levels)) levels))) (sym whole) (line-reaches levels (suc (greatest levels))) in
    subst (λ l. Order (is_odd (least_between levels i j)) (i, get_or levels i 0) (j, get_or levels j 0) (reversed_from (suc (greatest levels) - lowest_odd (suc (greatest levels)) levels) (lowest_odd (suc (greatest levels)) levels) l)) whole
    (order-from-lowest (suc (greatest levels)) (lowest_odd (suc (greatest levels)) levels) a (i, get_or levels i 0) m (j, get_or levels j 0) b (least_between levels i j) is
    (omega (arith, le, is.at_x)) (lowest-cases (suc (greatest levels)) levels)
    (least-reaches (lowest_odd (suc (greatest levels)) levels) (least_between levels i j) a (i, get_or levels i 0) m (j, get_or levels j 0) b is reaches))

visual-distinct : (levels : List ℕ) → IsDistinct eqb (visual_list levels)
unfolding visual_list
visual-distinct levels =
    subst (λ cs. IsDistinct eqb (numbers (arranged levels cs))) (between-all levels) (placed-distinct levels 0 (length levels) (omega arith) (omega arith))

order-stands : (odd : Bool) (levels : List ℕ) (i j li lj : ℕ) → Order odd (i, li) (j, lj) (arranged levels (enumerate_from 0 levels)) →
    (StandsLeft (visual_list levels) i j → odd ≡ false) × (odd ≡ false → StandsLeft (visual_list levels) i j)
unfolding Order visual_list
order-stands false levels i j li lj h = (λ _. refl, λ _. left-places (i, li) (j, lj) (arranged levels (enumerate_from 0 levels)) h)
order-stands true levels i j li lj h =
    let stands = left-places (j, lj) (i, li) (arranged levels (enumerate_from 0 levels)) h in
    (λ s. absurd (not-both (visual_list levels) i j (visual-distinct levels) s stands), λ e. absurd (true≢false e))

pub visual-order : VisualOrder
visual-order levels i j lt within =
    let both = order-stands (is_odd (least_between levels i j)) levels i j (get_or levels i 0) (get_or levels j 0) (arranged-order levels i j lt within) in (
      λ s. (let ne = eqb-false (least_between levels i j % 2) 1 (both.0 s) in omega arith),
      λ e. both.1 (ne_eqb (least_between levels i j % 2) 1 (λ o. omega arith)),
    )
