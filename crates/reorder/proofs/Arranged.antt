-- A stretch of a line splits at a cluster of its least level: at an even level the two sides keep their places, at an odd one they swap them.
use Rattle.std.proofs.Common.{ℕ, zero, suc, ◌≡◌, ◌+◌, ◌-◌, ◌<◌, ◌≤◌, refl, ap, sym, ◌∙◌, subst, List, [], ◌∷◌, ◌++◌, reverse, Bool, true, false, append_assoc, arith, ◌%◌, ◌⊎◌, inl, inr, length, get_or, add-zero, add-suc, min}
use Rattle.std.specs.Prelude.{not, if◌then◌else◌}
use Rattle.std.proofs.lemmas.List.{reverse-append}
use Rattle.std.proofs.lemmas.Bool.{cases_eq, cases_lt, cond_both, cond-true, eq-eqb, ne_eqb, false_from_ne_true}
use Rattle.reorder.specs.VisualList.{Cluster, reversed_from, is_odd, is_at_least, runs_reversed, greatest, lowest_odd, arranged}
use Rattle.reorder.proofs.Rounds.{High, high-append, reverse-cons, rounds-split, rounds-all}

-- an odd number of reversals, or an even one
abbrev pub is_odd_count : ℕ → Bool
is_odd_count zero = false
is_odd_count (suc n) = not (is_odd_count n)

-- a before x before b, or after an odd number of reversals b before x before a
abbrev pub sides : Bool → List Cluster → Cluster → List Cluster → List Cluster
sides false a x b = a ++ x ∷ b
sides true a x b = b ++ x ∷ a

reverse-middle : (a : List Cluster) (x : Cluster) (b : List Cluster) → reverse (a ++ x ∷ b) ≡ reverse b ++ x ∷ reverse a
reverse-middle a x b =
    reverse-append a (x ∷ b) ∙ ap (λ l. l ++ reverse a) (reverse-cons x b) ∙ append_assoc (reverse b) (x ∷ []) (reverse a)

reverse-sides : (odd : Bool) (a : List Cluster) (x : Cluster) (b : List Cluster) →
    reverse (sides odd a x b) ≡ sides (not odd) (reverse a) x (reverse b)
reverse-sides false a x b = reverse-middle a x b
reverse-sides true a x b = reverse-middle b x a

pub high-weaken : (j k : ℕ) (l : List Cluster) → k ≤ j → High j l → High k l
high-weaken j k [] le h = tt
high-weaken j k (z ∷ zs) le h = (omega arith, high-weaken j k zs le h.1)

flipped : (odd b : Bool) → not (if odd then not b else b) ≡ (if not odd then not b else b)
flipped true true = refl
flipped true false = refl
flipped false b = refl

-- n rounds from level k on, of which d reverse the whole
pub rounds-sides : (d n k : ℕ) (a : List Cluster) (x : Cluster) (b : List Cluster) →
    x.1 + 1 ≡ k + d → d ≤ n → High x.1 a → High x.1 b →
    reversed_from n k (a ++ x ∷ b) ≡ sides (is_odd_count d) (reversed_from n k a) x (reversed_from n k b)
rounds-sides zero n k a x b at within ha hb = rounds-split n k a b x (omega arith)
rounds-sides (suc d) zero k a x b at within ha hb = absurd (omega arith)
rounds-sides (suc d) (suc n) k a x b at within ha hb =
    let ha' : High k a = high-weaken x.1 k a (omega arith) ha in
    let hb' : High k b = high-weaken x.1 k b (omega arith) hb in
    let le : k ≤ x.1 = omega arith in
    let odd = is_odd_count d in
    rounds-all n k (a ++ x ∷ b) (high-append k a (x ∷ b) ha' (le, hb'))
    ∙ ap reverse (rounds-sides d n (suc k) a x b (omega arith) (omega arith) ha hb)
    ∙ reverse-sides odd (reversed_from n (suc k) a) x (reversed_from n (suc k) b)
    ∙ ap (λ l. sides (not odd) l x (reverse (reversed_from n (suc k) b))) (sym (rounds-all n k a ha'))
    ∙ ap (λ l. sides (not odd) (reversed_from (suc n) k a) x l) (sym (rounds-all n k b hb'))

-- parity

pub odd-suc : (m : ℕ) → is_odd (suc m) ≡ not (is_odd m)
odd-suc m = elim (cases_eq (m % 2) 1) [
  | inl e ↦ ne_eqb (suc m % 2) 1 (λ f. omega arith) ∙ ap not (sym (eq-eqb (m % 2) 1 e))
  | inr ne ↦ eq-eqb (suc m % 2) 1 (omega arith) ∙ ap not (sym (ne_eqb (m % 2) 1 ne))
]

odd-add : (m d : ℕ) → is_odd (m + d) ≡ (if is_odd_count d then not (is_odd m) else is_odd m)
odd-add m zero = ap is_odd (add-zero m)
odd-add m (suc d) = ap is_odd (add-suc m d) ∙ odd-suc (m + d) ∙ ap not (odd-add m d) ∙ flipped (is_odd_count d) (is_odd m)

-- levels of a line

pub level-le-greatest : (levels : List ℕ) (i : ℕ) → i < length levels → get_or levels i 0 ≤ greatest levels
level-le-greatest [] i h = absurd (omega arith)
level-le-greatest (l ∷ ls) zero h = omega arith
level-le-greatest (l ∷ ls) (suc i) h = let e = level-le-greatest ls i (omega arith) in omega arith

min-cases : (a b : ℕ) → (min a b ≡ a) ⊎ (min a b ≡ b)
min-cases a b = elim (cases_lt a b) [ inl h ↦ inl (omega arith) | inr h ↦ inr (omega arith) ]

pub lowest-cases : (none : ℕ) (levels : List ℕ) → (lowest_odd none levels ≡ none) ⊎ (is_odd (lowest_odd none levels) ≡ true)
lowest-cases none [] = inl refl
lowest-cases none (l ∷ ls) =
    let rest = lowest-cases none ls in
    let P : ℕ → Type 0 = λ v. (v ≡ none) ⊎ (is_odd v ≡ true) in
    cond_both (is_odd l) (min l (lowest_odd none ls)) (lowest_odd none ls) P
    (λ o. elim (min-cases l (lowest_odd none ls)) [ inl e ↦ subst P (sym e) (inr o) | inr e ↦ subst P (sym e) rest ])
    (λ _. rest)

pub lowest-le : (none : ℕ) (levels : List ℕ) (i : ℕ) → i < length levels → is_odd (get_or levels i 0) ≡ true → lowest_odd none levels ≤ get_or levels i 0
lowest-le none [] i h o = absurd (omega arith)
lowest-le none (l ∷ ls) zero h o =
    subst (λ v. v ≤ l) (sym (cond-true (is_odd l) (min l (lowest_odd none ls)) (lowest_odd none ls) o)) (omega arith)
lowest-le none (l ∷ ls) (suc i) h o =
    let le : lowest_odd none ls ≤ get_or ls i 0 = lowest-le none ls i (omega arith) o in
    cond_both (is_odd l) (min l (lowest_odd none ls)) (lowest_odd none ls) (λ v. v ≤ get_or ls i 0) (λ _. omega arith) (λ _. le)

-- the rounds from the lowest odd level on

same-from-not : (c o : Bool) → not o ≡ (if c then false else true) → c ≡ o
same-from-not true true e = refl
same-from-not true false e = e
same-from-not false true e = e
same-from-not false false e = refl

pub count-parity : (low d l : ℕ) → is_odd low ≡ true → suc l ≡ low + d → is_odd_count d ≡ is_odd l
count-parity low d l odd e =
    same-from-not (is_odd_count d) (is_odd l)
    (sym (odd-suc l) ∙ ap is_odd e ∙ odd-add low d ∙ ap (λ b. if is_odd_count d then not b else b) odd)

rounds-from-lowest : (top low : ℕ) (a : List Cluster) (x : Cluster) (b : List Cluster) →
    x.1 < top → (low ≡ top) ⊎ (is_odd low ≡ true) → (is_odd x.1 ≡ true → low ≤ x.1) → High x.1 a → High x.1 b →
    reversed_from (top - low) low (a ++ x ∷ b)
    ≡ sides (is_odd x.1) (reversed_from (top - low) low a) x (reversed_from (top - low) low b)
rounds-from-lowest top low a x b below odd least ha hb =
    let a' = reversed_from (top - low) low a in
    let b' = reversed_from (top - low) low b in
    elim (cases_lt x.1 low) [
      | inl lt ↦
          let even : is_odd x.1 ≡ false = false_from_ne_true (is_odd x.1) (λ o. let le : low ≤ x.1 = least o in omega arith) in
          rounds-split (top - low) low a b x lt ∙ ap (λ o. sides o a' x b') (sym even)
      | inr ge ↦
          let is : is_odd low ≡ true = elim odd [ inl e ↦ absurd (omega arith) | inr o ↦ o ] in
          let d = suc x.1 - low in
          rounds-sides (suc x.1 - low) (top - low) low a x b (omega arith) (omega arith) ha hb
          ∙ ap (λ o. sides o a' x b') (count-parity low (suc x.1 - low) x.1 is (omega arith))
    ]

pub arranged-sides : (levels : List ℕ) (a : List Cluster) (x : Cluster) (b : List Cluster) (i : ℕ) →
    i < length levels → get_or levels i 0 ≡ x.1 → High x.1 a → High x.1 b →
    arranged levels (a ++ x ∷ b) ≡ sides (is_odd x.1) (arranged levels a) x (arranged levels b)
unfolding arranged
arranged-sides levels a x b i lt e ha hb =
    let le = level-le-greatest levels i lt in
    let top = suc (greatest levels) in
    rounds-from-lowest (suc (greatest levels)) (lowest_odd (suc (greatest levels)) levels) a x b
    (omega arith) (lowest-cases (suc (greatest levels)) levels)
    (λ o. subst (λ l. lowest_odd (suc (greatest levels)) levels ≤ l) e
    (lowest-le (suc (greatest levels)) levels i lt (ap is_odd e ∙ o)))
    ha hb

rounds-nil : (n k : ℕ) → reversed_from n k [] ≡ []
rounds-nil zero k = refl
rounds-nil (suc n) k = ap (runs_reversed (is_at_least k)) (rounds-nil n (suc k))

pub arranged-nil : (levels : List ℕ) → arranged levels [] ≡ []
unfolding arranged
arranged-nil levels = rounds-nil (suc (greatest levels) - lowest_odd (suc (greatest levels)) levels) (lowest_odd (suc (greatest levels)) levels)

-- a stretch and a later one: the later one stands right of it, or at an odd level left of it
abbrev pub joined : {X : Type 0} → Bool → List X → List X → List X
joined odd a b = if odd then b ++ a else a ++ b

alone : (odd : Bool) (x : Cluster) → sides odd [] x [] ≡ x ∷ []
alone true x = refl
alone false x = refl

sides-join_end : (odd : Bool) (a : List Cluster) (x : Cluster) (b : List Cluster) → sides odd a x b ≡ joined odd (sides odd a x []) b
sides-join_end true a x b = refl
sides-join_end false a x b = sym (append_assoc a (x ∷ []) b)

sides-join_start : (odd : Bool) (a : List Cluster) (x : Cluster) (b : List Cluster) → sides odd a x b ≡ joined odd a (sides odd [] x b)
sides-join_start true a x b = sym (append_assoc b (x ∷ []) a)
sides-join_start false a x b = refl

pub arranged-one : (levels : List ℕ) (x : Cluster) (i : ℕ) → i < length levels → get_or levels i 0 ≡ x.1 →
    arranged levels (x ∷ []) ≡ x ∷ []
arranged-one levels x i lt e =
    arranged-sides levels [] x [] i lt e tt tt
    ∙ ap (λ l. sides (is_odd x.1) l x l) (arranged-nil levels) ∙ alone (is_odd x.1) x

-- the least level ends the first stretch
pub arranged-joined_at_end : (levels : List ℕ) (a : List Cluster) (x : Cluster) (b : List Cluster) (i : ℕ) →
    i < length levels → get_or levels i 0 ≡ x.1 → High x.1 a → High x.1 b →
    arranged levels ((a ++ x ∷ []) ++ b) ≡ joined (is_odd x.1) (arranged levels (a ++ x ∷ [])) (arranged levels b)
arranged-joined_at_end levels a x b i lt e ha hb =
    ap (arranged levels) (append_assoc a (x ∷ []) b)
    ∙ arranged-sides levels a x b i lt e ha hb
    ∙ sides-join_end (is_odd x.1) (arranged levels a) x (arranged levels b)
    ∙ ap (λ l. joined (is_odd x.1) (sides (is_odd x.1) (arranged levels a) x l) (arranged levels b)) (sym (arranged-nil levels))
    ∙ ap (λ l. joined (is_odd x.1) l (arranged levels b)) (sym (arranged-sides levels a x [] i lt e ha tt))

-- the least level begins the later stretch
pub arranged-joined_at_start : (levels : List ℕ) (a : List Cluster) (x : Cluster) (b : List Cluster) (i : ℕ) →
    i < length levels → get_or levels i 0 ≡ x.1 → High x.1 a → High x.1 b →
    arranged levels (a ++ x ∷ b) ≡ joined (is_odd x.1) (arranged levels a) (arranged levels (x ∷ b))
arranged-joined_at_start levels a x b i lt e ha hb =
    arranged-sides levels a x b i lt e ha hb
    ∙ sides-join_start (is_odd x.1) (arranged levels a) x (arranged levels b)
    ∙ ap (λ l. joined (is_odd x.1) (arranged levels a) (sides (is_odd x.1) l x (arranged levels b))) (sym (arranged-nil levels))
    ∙ ap (λ l. joined (is_odd x.1) (arranged levels a) l) (sym (arranged-sides levels [] x b i lt e tt hb))
