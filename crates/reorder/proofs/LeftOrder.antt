-- Which of two clusters stands left of the other after the rounds.
use Rattle.std.proofs.Common.{ℕ, zero, suc, ◌≡◌, ◌+◌, ◌-◌, ◌<◌, ◌≤◌, refl, ap, sym, ◌∙◌, subst, inl, inr, ◌⊎◌, List, [], ◌∷◌, ◌++◌, reverse, Bool, true, false, append_assoc, arith}
use Rattle.std.specs.Prelude.{not}
use Rattle.std.proofs.lemmas.Bool.{cases_lt}
use Rattle.reorder.specs.VisualList.{Cluster, reversed_from}
use Rattle.reorder.proofs.Rounds.{High, high-append, rounds-split, rounds-all}
use Rattle.reorder.proofs.Arranged.{high-weaken, is_odd_count}
use Rattle.reorder.proofs.Left.{In, Left, in-right, left-left, left-right, left-across, left-reverse, in-rounds}

-- x left of y, or after an odd number of reversals y left of x
unfoldable pub Order : Bool → Cluster → Cluster → List Cluster → Type 0
Order false x y l = Left x y l
Order true x y l = Left y x l

order-flip : (odd : Bool) (x y : Cluster) (l : List Cluster) → Order odd x y l → Order (not odd) x y (reverse l)
unfolding Order
order-flip false x y l h = left-reverse x y l h
order-flip true x y l h = left-reverse y x l h

order-left : (odd : Bool) (x y : Cluster) (p q : List Cluster) → Order odd x y p → Order odd x y (p ++ q)
unfolding Order
order-left false x y p q h = left-left x y p q h
order-left true x y p q h = left-left y x p q h

order-right : (odd : Bool) (x y : Cluster) (p q : List Cluster) → Order odd x y q → Order odd x y (p ++ q)
unfolding Order
order-right false x y p q h = left-right x y p q h
order-right true x y p q h = left-right y x p q h

order-cons : (odd : Bool) (x y w : Cluster) (q : List Cluster) → Order odd x y q → Order odd x y (w ∷ q)
order-cons odd x y w q h = order-right odd x y (w ∷ []) q h

-- a list is high, or splits at its last low element, or at its first
pub record LastLow (k : ℕ) (l : List Cluster) : Type 0 where
  pub front : List Cluster
  pub low : Cluster
  pub back : List Cluster
  pub is : l ≡ front ++ low ∷ back
  pub below : low.1 < k
  pub high : High k back

record FirstLow (k : ℕ) (l : List Cluster) : Type 0 where
  front : List Cluster
  low : Cluster
  back : List Cluster
  is : l ≡ front ++ low ∷ back
  below : low.1 < k
  high : High k front

high_or_low : (k : ℕ) (z : Cluster) → (k ≤ z.1) ⊎ (z.1 < k)
high_or_low k z = elim (cases_lt z.1 k) [ inl h ↦ inr h | inr h ↦ inl h ]

pub last-low : (k : ℕ) (l : List Cluster) → High k l ⊎ LastLow k l
last-low k [] = inl tt
last-low k (z ∷ zs) = elim (last-low k zs) [
  | inl h ↦ elim (high_or_low k z) [ inl a ↦ inl (a, h) | inr b ↦ inr (record { front = []; low = z; back = zs; is = refl; below = b; high = h }) ]
  | inr s ↦ inr (record { front = z ∷ s.front; low = s.low; back = s.back; is = ap (λ l. z ∷ l) s.is; below = s.below; high = s.high })
]

first-low : (k : ℕ) (l : List Cluster) → High k l ⊎ FirstLow k l
first-low k [] = inl tt
first-low k (z ∷ zs) = elim (high_or_low k z) [
  | inr b ↦ inr (record { front = []; low = z; back = zs; is = refl; below = b; high = tt })
  | inl a ↦ elim (first-low k zs) [
    | inl h ↦ inl (a, h)
    | inr s ↦ inr (record { front = z ∷ s.front; low = s.low; back = s.back; is = ap (λ l. z ∷ l) s.is; below = s.below; high = (a, s.high) })
  ]
]

-- the least level from x over m to y
pub record IsLeast (least : ℕ) (x : Cluster) (m : List Cluster) (y : Cluster) : Type 0 where
  pub at_x : least ≤ x.1
  pub at_y : least ≤ y.1
  pub at_m : High least m
  pub met : (least ≡ x.1) ⊎ (least ≡ y.1) ⊎ LastLow (suc least) m

unfoldable pub line : List Cluster → Cluster → List Cluster → Cluster → List Cluster → List Cluster
line a x m y b = a ++ x ∷ (m ++ y ∷ b)

-- an element below k between x and y keeps x to the left
low-between : (n k : ℕ) (a : List Cluster) (x : Cluster) (m : List Cluster) (y : Cluster) (b : List Cluster) (least : ℕ) →
    IsLeast least x m y → least < k → Left x y (reversed_from n k (line a x m y b))
unfolding line In Left
low-between n k a x m y b least is low = elim is.met [
  | inl e ↦ subst (Left x y) (sym (rounds-split n k a (m ++ y ∷ b) x (omega arith)))
      (left-right x y (reversed_from n k a) (x ∷ reversed_from n k (m ++ y ∷ b)) (inl (refl, in-rounds y n k (m ++ y ∷ b) (in-right y m (y ∷ b) (inl refl)))))
  | inr t ↦ elim t [
    | inl e ↦
        let g : a ++ x ∷ (m ++ y ∷ b) ≡ (a ++ x ∷ m) ++ y ∷ b = simp append_assoc in
        subst (Left x y) (sym (ap (reversed_from n k) g ∙ rounds-split n k (a ++ x ∷ m) b y (omega arith)))
        (left-across x y (reversed_from n k (a ++ x ∷ m)) (y ∷ reversed_from n k b)
        (in-rounds x n k (a ++ x ∷ m) (in-right x a (x ∷ m) (inl refl))) (inl refl))
    | inr s ↦
        let g : a ++ x ∷ (m ++ y ∷ b) ≡ (a ++ x ∷ s.front) ++ s.low ∷ (s.back ++ y ∷ b) = rw s.is (simp append_assoc) in
        let lt : s.low.1 < suc least = s.below in
        subst (Left x y) (sym (ap (reversed_from n k) g ∙ rounds-split n k (a ++ x ∷ s.front) (s.back ++ y ∷ b) s.low (omega arith)))
        (left-across x y (reversed_from n k (a ++ x ∷ s.front)) (s.low ∷ reversed_from n k (s.back ++ y ∷ b))
        (in-rounds x n k (a ++ x ∷ s.front) (in-right x a (x ∷ s.front) (inl refl)))
        (inr (in-rounds y n k (s.back ++ y ∷ b) (in-right y s.back (y ∷ b) (inl refl)))))
  ]
]

le-trans : {a b c : ℕ} → a ≤ b → b ≤ c → a ≤ c
le-trans h j = omega arith

-- in a high line the last round reverses all
order-core : (n k : ℕ) (a : List Cluster) (x : Cluster) (m : List Cluster) (y : Cluster) (b : List Cluster) (least : ℕ) →
    IsLeast least x m y → k ≤ least → High k a → High k b →
    Order (is_odd_count (suc least - suc k)) x y (reversed_from n (suc k) (line a x m y b)) →
    Order (is_odd_count (suc least - k)) x y (reversed_from (suc n) k (line a x m y b))
unfolding line
order-core n k a x m y b least is le ha hb ih =
    let high : High k (a ++ x ∷ (m ++ y ∷ b)) =
    high-append k a (x ∷ (m ++ y ∷ b)) ha (le-trans le is.at_x, high-append k m (y ∷ b) (high-weaken least k m le is.at_m) (le-trans le is.at_y, hb)) in
    let e : suc least - k ≡ suc (suc least - suc k) = omega arith in
    subst (λ r. Order (is_odd_count r) x y (reversed_from (suc n) k (a ++ x ∷ (m ++ y ∷ b)))) (sym e)
    (subst (Order (not (is_odd_count (suc least - suc k))) x y) (sym (rounds-all n k (a ++ x ∷ (m ++ y ∷ b)) high))
    (order-flip (is_odd_count (suc least - suc k)) x y (reversed_from n (suc k) (a ++ x ∷ (m ++ y ∷ b))) ih))

order-b-low : (n k : ℕ) (a : List Cluster) (x : Cluster) (m : List Cluster) (y : Cluster) (b : List Cluster) (least : ℕ) →
    IsLeast least x m y → k ≤ least → High k a → (s : FirstLow k b) →
    Order (is_odd_count (suc least - k)) x y (reversed_from (suc n) k (line a x m y s.front)) →
    Order (is_odd_count (suc least - k)) x y (reversed_from (suc n) k (line a x m y b))
unfolding line
order-b-low n k a x m y b least is le ha s h =
    let g : a ++ x ∷ (m ++ y ∷ b) ≡ (a ++ x ∷ (m ++ y ∷ s.front)) ++ s.low ∷ s.back = rw s.is (simp append_assoc) in
    subst (Order (is_odd_count (suc least - k)) x y) (sym (ap (reversed_from (suc n) k) g ∙ rounds-split (suc n) k (a ++ x ∷ (m ++ y ∷ s.front)) s.back s.low s.below))
    (order-left (is_odd_count (suc least - k)) x y (reversed_from (suc n) k (a ++ x ∷ (m ++ y ∷ s.front))) (s.low ∷ reversed_from (suc n) k s.back) h)

order-a-low : (n k : ℕ) (a : List Cluster) (x : Cluster) (m : List Cluster) (y : Cluster) (b : List Cluster) (least : ℕ) (s : LastLow k a) →
    Order (is_odd_count (suc least - k)) x y (reversed_from (suc n) k (line s.back x m y b)) →
    Order (is_odd_count (suc least - k)) x y (reversed_from (suc n) k (line a x m y b))
unfolding line
order-a-low n k a x m y b least s h =
    let g : a ++ x ∷ (m ++ y ∷ b) ≡ s.front ++ s.low ∷ (s.back ++ x ∷ (m ++ y ∷ b)) = rw s.is (simp append_assoc) in
    subst (Order (is_odd_count (suc least - k)) x y) (sym (ap (reversed_from (suc n) k) g ∙ rounds-split (suc n) k s.front (s.back ++ x ∷ (m ++ y ∷ b)) s.low s.below))
    (order-right (is_odd_count (suc least - k)) x y (reversed_from (suc n) k s.front) (s.low ∷ reversed_from (suc n) k (s.back ++ x ∷ (m ++ y ∷ b)))
    (order-cons (is_odd_count (suc least - k)) x y s.low (reversed_from (suc n) k (s.back ++ x ∷ (m ++ y ∷ b))) h))

-- whatever stands right of the run
order-b : (n k : ℕ) (a : List Cluster) (x : Cluster) (m : List Cluster) (y : Cluster) (b : List Cluster) (least : ℕ) →
    IsLeast least x m y → k ≤ least → High k a →
    ((a' b' : List Cluster) → Order (is_odd_count (suc least - suc k)) x y (reversed_from n (suc k) (line a' x m y b'))) →
    Order (is_odd_count (suc least - k)) x y (reversed_from (suc n) k (line a x m y b))
order-b n k a x m y b least is le ha ih = elim (first-low k b) [
  | inl hb ↦ order-core n k a x m y b least is le ha hb (ih a b)
  | inr s ↦ order-b-low n k a x m y b least is le ha s (order-core n k a x m y s.front least is le ha s.high (ih a s.front))
]

order-a : (n k : ℕ) (a : List Cluster) (x : Cluster) (m : List Cluster) (y : Cluster) (b : List Cluster) (least : ℕ) →
    IsLeast least x m y → k ≤ least →
    ((a' b' : List Cluster) → Order (is_odd_count (suc least - suc k)) x y (reversed_from n (suc k) (line a' x m y b'))) →
    Order (is_odd_count (suc least - k)) x y (reversed_from (suc n) k (line a x m y b))
order-a n k a x m y b least is le ih = elim (last-low k a) [
  | inl ha ↦ order-b n k a x m y b least is le ha ih
  | inr s ↦ order-a-low n k a x m y b least s (order-b n k s.back x m y b least is le s.high ih)
]

-- the order of x and y after the rounds of n levels from k on
pub order : (n k : ℕ) (a : List Cluster) (x : Cluster) (m : List Cluster) (y : Cluster) (b : List Cluster) (least : ℕ) →
    IsLeast least x m y → least < k + n →
    Order (is_odd_count (suc least - k)) x y (reversed_from n k (line a x m y b))
unfolding Order line Left In
order zero k a x m y b least is lt =
    let e : suc least - k ≡ 0 = omega arith in
    subst (λ r. Order (is_odd_count r) x y (a ++ x ∷ (m ++ y ∷ b))) (sym e) (left-right x y a (x ∷ (m ++ y ∷ b)) (inl (refl, in-right y m (y ∷ b) (inl refl))))
order (suc n) k a x m y b least is lt = elim (cases_lt least k) [
  | inr p ↦ order-a n k a x m y b least is p (λ a' b'. order n (suc k) a' x m y b' least is (omega arith))
  | inl p ↦
      let e : suc least - k ≡ 0 = omega (arith, p) in
      subst (λ r. Order (is_odd_count r) x y (reversed_from (suc n) k (a ++ x ∷ (m ++ y ∷ b)))) (sym e) (low-between (suc n) k a x m y b least is p)
]
