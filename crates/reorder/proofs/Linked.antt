-- Pieces of linked numbers: joining two, and walking along one.
use Rattle.std.proofs.Common.{ℕ, suc, ◌≡◌, ◌+◌, ◌-◌, ◌<◌, ◌≤◌, refl, ap, sym, ◌∙◌, subst, List, [], ◌∷◌, ◌++◌, length, get_or, Bool, true, false, arith, eqb}
use Rattle.std.specs.Prelude.{if◌then◌else◌, slice_set}
use Rattle.std.specs.List.{AllByRecursion, IsDistinct}
use Rattle.std.proofs.lemmas.List.{get_or-set_same, get_or-set_other}
use Rattle.std.proofs.lemmas.Bool.{eqb-false}
use Rattle.std.proofs.lemmas.Map.Keys.{IsDistinct-head, IsDistinct-tail}
use Rattle.reorder.specs.Links.{LeadsTo, IsLinked, walk}
use Rattle.reorder.proofs.Arranged.{joined}
use Rattle.reorder.proofs.Between.{Within}

pub each-weaker : (P Q : ℕ → Type 0) → ((k : ℕ) → P k → Q k) → (xs : List ℕ) → AllByRecursion P xs → AllByRecursion Q xs
each-weaker P Q f [] h = tt
each-weaker P Q f (x ∷ xs) h = (f x h.0, each-weaker P Q f xs h.1)

-- what holds of each number of a piece holds of its last one
leads-last : (P : ℕ → Type 0) (links : List ℕ) (at last : ℕ) (xs : List ℕ) → LeadsTo links at last xs → AllByRecursion P (at ∷ xs) → P last
leads-last P links at last [] h all = subst P (sym h) all.0
leads-last P links at last (x ∷ xs) h all = leads-last P links x last xs h.1 all.1

pub linked-last : (P : ℕ → Type 0) (links : List ℕ) (first last : ℕ) (xs : List ℕ) → IsLinked links first last xs → AllByRecursion P xs → P last
linked-last P links first last [] h all = absurd h
linked-last P links first last (x ∷ xs) h all = leads-last P links x last xs h.1 all

-- links that are the same at a piece's numbers link it too
leads-frame : (links links' : List ℕ) (at last : ℕ) (xs : List ℕ) → LeadsTo links at last xs →
    AllByRecursion (λ k. get_or links' k 0 ≡ get_or links k 0) (at ∷ xs) → LeadsTo links' at last xs
leads-frame links links' at last [] h same = h
leads-frame links links' at last (x ∷ xs) h same = (same.0 ∙ h.0, leads-frame links links' x last xs h.1 same.1)

pub linked-frame : (links links' : List ℕ) (first last : ℕ) (xs : List ℕ) → IsLinked links first last xs →
    AllByRecursion (λ k. get_or links' k 0 ≡ get_or links k 0) xs → IsLinked links' first last xs
linked-frame links links' first last [] h same = h
linked-frame links links' first last (x ∷ xs) h same = (h.0, leads-frame links links' x last xs h.1 same)

-- a link from the last number to another piece
leads-join : (links : List ℕ) (at last : ℕ) (xs : List ℕ) (y last' : ℕ) (ys : List ℕ) →
    LeadsTo links at last xs → IsDistinct eqb (at ∷ xs) → last < length links → LeadsTo (slice_set links last y) y last' ys →
    LeadsTo (slice_set links last y) at last' (xs ++ y ∷ ys)
leads-join links at last [] y last' ys h distinct lt h' =
    (subst (λ k. get_or (slice_set links last y) k 0 ≡ y) h (get_or-set_same links last y 0 lt), h')
leads-join links at last (x ∷ xs) y last' ys h distinct lt h' =
    let apart : eqb at last ≡ false = leads-last (λ k. eqb at k ≡ false) links x last xs h.1 (IsDistinct-head eqb at (x ∷ xs) distinct) in (
      get_or-set_other links last at y 0 (eqb-false at last apart) ∙ h.0,
      leads-join links x last xs y last' ys h.1 (IsDistinct-tail eqb at (x ∷ xs) distinct) lt h',
    )

-- one piece before another
linked-append : (links : List ℕ) (f l : ℕ) (xs : List ℕ) (f' l' : ℕ) (ys : List ℕ) →
    IsLinked links f l xs → IsLinked links f' l' ys → IsDistinct eqb xs → l < length links →
    AllByRecursion (λ y. y ≡ l → ⊥) ys → IsLinked (slice_set links l f') f l' (xs ++ ys)
linked-append links f l [] f' l' ys h h' distinct lt apart = absurd h
linked-append links f l (x ∷ xs) f' l' [] h h' distinct lt apart = absurd h'
linked-append links f l (x ∷ xs) f' l' (y ∷ ys) h h' distinct lt apart =
    let same = each-weaker (λ k. k ≡ l → ⊥) (λ k. get_or (slice_set links l y) k 0 ≡ get_or links k 0)
    (λ k ne. get_or-set_other links l k y 0 ne) (y ∷ ys) apart in
    let tail : LeadsTo (slice_set links l y) y l' ys = leads-frame links (slice_set links l y) y l' ys h'.1 same in (
      h.0,
      subst (λ n. LeadsTo (slice_set links l n) x l' (xs ++ y ∷ ys)) (sym h'.0)
          (leads-join links x l xs y l' ys h.1 distinct lt tail),
    )

-- a piece of the numbers from a up to b, and one of those from b up to c
pub linked-joined : (odd : Bool) (links : List ℕ) (f l : ℕ) (xs : List ℕ) (f' l' : ℕ) (ys : List ℕ) (a b c : ℕ) →
    IsLinked links f l xs → IsLinked links f' l' ys → IsDistinct eqb xs → IsDistinct eqb ys →
    Within a b xs → Within b c ys → b ≤ c → c ≤ length links →
    IsLinked (if odd then slice_set links l' f else slice_set links l f') (if odd then f' else f) (if odd then l else l') (joined odd xs ys)
linked-joined false links f l xs f' l' ys a b c h h' distinct distinct' in-xs in-ys le within =
    let lt : l < b = linked-last (λ k. k < b) links f l xs h (each-weaker (λ k. (a ≤ k) × (k < b)) (λ k. k < b) (λ k p. p.1) xs in-xs) in
    linked-append links f l xs f' l' ys h h' distinct (omega arith)
    (each-weaker (λ k. (b ≤ k) × (k < c)) (λ k. k ≡ l → ⊥) (λ k p. λ e. omega arith) ys in-ys)
linked-joined true links f l xs f' l' ys a b c h h' distinct distinct' in-xs in-ys le within =
    let at : (b ≤ l') × (l' < c) = linked-last (λ k. (b ≤ k) × (k < c)) links f' l' ys h' in-ys in
    linked-append links f' l' ys f l xs h' h distinct' (omega arith)
    (each-weaker (λ k. (a ≤ k) × (k < b)) (λ k. k ≡ l' → ⊥) (λ k p. λ e. omega arith) xs in-xs)

-- walking

walk-leads : (links : List ℕ) (at last : ℕ) (xs : List ℕ) → LeadsTo links at last xs → walk (suc (length xs)) links at ≡ at ∷ xs
walk-leads links at last [] h = refl
walk-leads links at last (x ∷ xs) h =
    ap (λ ns. at ∷ ns) (ap (λ k. walk (suc (length xs)) links k) h.0 ∙ walk-leads links x last xs h.1)

pub walk-linked : (links : List ℕ) (first last : ℕ) (xs : List ℕ) → IsLinked links first last xs → walk (length xs) links first ≡ xs
walk-linked links first last [] h = absurd h
walk-linked links first last (x ∷ xs) h = ap (λ k. walk (suc (length xs)) links k) h.0 ∙ walk-leads links x last xs h.1

pub walk-more : (n k : ℕ) (links : List ℕ) (at : ℕ) → k < n → walk (n - k) links at ≡ at ∷ walk (n - (k + 1)) links (get_or links at 0)
walk-more n k links at lt =
    let e : n - k ≡ suc (n - (k + 1)) = omega arith in
    ap (λ m. walk m links at) e
