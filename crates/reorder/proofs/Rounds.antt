-- What one round of reversals does to a list of clusters, and what all rounds do.
use Rattle.std.proofs.Common.{ℕ, zero, suc, ◌≡◌, ◌<◌, ◌≤◌, refl, ap, sym, ◌∙◌, subst, List, [], ◌∷◌, ◌++◌, reverse, Bool, true, false, append_assoc, append-nil, arith, rules}
use Rattle.std.specs.List.{AllByRecursion}
use Rattle.std.specs.List.Sorted.{IsPermutation}
use Rattle.std.proofs.lemmas.List.{reverse-append}
use Rattle.std.proofs.lemmas.List.Elements.{All-from_recursion, recursion_from_All}
use Rattle.std.proofs.lemmas.List.Sorted.{IsPermutation-refl, IsPermutation-trans, IsPermutation-append_right, IsPermutation-cons, IsPermutation-middle, All-permutation}
use Rattle.reorder.specs.VisualList.{Cluster, runs_reversed_behind, runs_reversed, is_at_least, reversed_from}
use Rattle.bg_types.proofs.Interface.{two_cases}

pub reverse-cons : (z : Cluster) (zs : List Cluster) → reverse (z ∷ zs) ≡ reverse zs ++ z ∷ []
reverse-cons z zs = reverse-append (z ∷ []) zs

-- all levels are at least k
abbrev pub High : ℕ → List Cluster → Type 0
High k clusters = AllByRecursion (λ c. k ≤ c.1) clusters

pub high-append : (k : ℕ) (p q : List Cluster) → High k p → High k q → High k (p ++ q)
high-append k [] q h j = j
high-append k (x ∷ p) q h j = (h.0, high-append k p q h.1 j)

-- one round

pub round-pass : (p : Cluster → Bool) (run xs : List Cluster) (z : Cluster) → p z ≡ true →
    runs_reversed_behind p run (z ∷ xs) ≡ runs_reversed_behind p (z ∷ run) xs
round-pass p run xs z e = rw (e, runs_reversed_behind)

pub round-stop : (p : Cluster → Bool) (run xs : List Cluster) (z : Cluster) → p z ≡ false →
    runs_reversed_behind p run (z ∷ xs) ≡ run ++ z ∷ runs_reversed p xs
round-stop p run xs z e = rw (e, runs_reversed_behind)

-- a cluster that does not pass splits the round
pub round-split : (p : Cluster → Bool) (run a q : List Cluster) (w : Cluster) → p w ≡ false →
    runs_reversed_behind p run (a ++ w ∷ q) ≡ runs_reversed_behind p run a ++ w ∷ runs_reversed p q
round-split p run [] q w low = round-stop p run q w low
round-split p run (z ∷ a) q w low =
    two_cases (p z)
    (λ e. round-pass p run (a ++ w ∷ q) z e ∙ round-split p (z ∷ run) a q w low
    ∙ ap (λ l. l ++ w ∷ runs_reversed p q) (sym (round-pass p run a z e)))
    (λ e. round-stop p run (a ++ w ∷ q) z e ∙ ap (λ l. run ++ z ∷ l) (round-split p [] a q w low)
    ∙ sym (append_assoc run (z ∷ runs_reversed p a) (w ∷ runs_reversed p q))
    ∙ ap (λ l. l ++ w ∷ runs_reversed p q) (sym (round-stop p run a z e)))

pub round-permutes : (p : Cluster → Bool) (run xs : List Cluster) → IsPermutation (run ++ xs) (runs_reversed_behind p run xs)
round-permutes p run [] = subst (λ l. IsPermutation l run) (sym (append-nil run)) (IsPermutation-refl run)
round-permutes p run (z ∷ xs) =
    two_cases (p z)
    (λ e. subst (IsPermutation (run ++ z ∷ xs)) (sym (round-pass p run xs z e))
    (IsPermutation-trans (run ++ z ∷ xs) (z ∷ (run ++ xs)) (runs_reversed_behind p (z ∷ run) xs)
    (IsPermutation-middle run z xs) (round-permutes p (z ∷ run) xs)))
    (λ e. subst (IsPermutation (run ++ z ∷ xs)) (sym (round-stop p run xs z e))
    (IsPermutation-append_right run (z ∷ xs) (z ∷ runs_reversed p xs)
    (IsPermutation-cons z xs (runs_reversed p xs) (round-permutes p [] xs))))

pub is_high : (k : ℕ) (z : Cluster) → k ≤ z.1 → is_at_least k z ≡ true
is_high k z h = search rules

pub is_low : (k : ℕ) (z : Cluster) → z.1 < k → is_at_least k z ≡ false
is_low k z h = search rules

-- where all pass, the round reverses the list
round-all : (k : ℕ) (run xs : List Cluster) → High k xs → runs_reversed_behind (is_at_least k) run xs ≡ reverse xs ++ run
round-all k run [] h = refl
round-all k run (z ∷ xs) h =
    round-pass (is_at_least k) run xs z (is_high k z h.0) ∙ round-all k (z ∷ run) xs h.1
    ∙ sym (append_assoc (reverse xs) (z ∷ []) run) ∙ ap (λ l. l ++ run) (sym (reverse-cons z xs))

-- all rounds

pub rounds-split : (n k : ℕ) (a q : List Cluster) (w : Cluster) → w.1 < k →
    reversed_from n k (a ++ w ∷ q) ≡ reversed_from n k a ++ w ∷ reversed_from n k q
rounds-split zero k a q w low = refl
rounds-split (suc n) k a q w low =
    ap (runs_reversed (is_at_least k)) (rounds-split n (suc k) a q w (omega arith))
    ∙ round-split (is_at_least k) [] (reversed_from n (suc k) a) (reversed_from n (suc k) q) w (is_low k w low)

pub rounds-permute : (n k : ℕ) (xs : List Cluster) → IsPermutation xs (reversed_from n k xs)
rounds-permute zero k xs = IsPermutation-refl xs
rounds-permute (suc n) k xs =
    IsPermutation-trans xs (reversed_from n (suc k) xs) (reversed_from (suc n) k xs)
    (rounds-permute n (suc k) xs) (round-permutes (is_at_least k) [] (reversed_from n (suc k) xs))

pub all-rounds : (P : Cluster → Type 0) (n k : ℕ) (xs : List Cluster) → AllByRecursion P xs → AllByRecursion P (reversed_from n k xs)
all-rounds P n k xs h =
    recursion_from_All P (reversed_from n k xs)
    (All-permutation P xs (reversed_from n k xs) (rounds-permute n k xs) (All-from_recursion P xs h))

-- where all levels are at least the lowest round's, that round reverses what the others leave
pub rounds-all : (n k : ℕ) (xs : List Cluster) → High k xs → reversed_from (suc n) k xs ≡ reverse (reversed_from n (suc k) xs)
rounds-all n k xs h = round-all k [] (reversed_from n (suc k) xs) (all-rounds (λ c. k ≤ c.1) n (suc k) xs h) ∙ append-nil _
