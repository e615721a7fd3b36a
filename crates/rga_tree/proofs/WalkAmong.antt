-- The walk by recursion over the insertions in rising order, and what one more leaf does to it.
use Rattle.std.proofs.Common.{◌≡◌, Bool, true, false, cond, List, [], ◌∷◌, ◌++◌, refl, sym, ap, subst, ◌∙◌}
use Rattle.std.specs.declared.cmp.Ordering.{Ordering}
use Rattle.std.specs.declared.cmp.Ordering.TheVariants.{Less, Equal, Greater}
use Rattle.std.specs.Ordering.{is_lt, is_eq, ordering_reverse}
use Rattle.std.specs.List.{AllByRecursion}
use Rattle.std.proofs.lemmas.List.{append-nil}
use Rattle.std.specs.FinMap.Entries.{put, by_order}
use Rattle.bg_types.specs.Identifier.{Identifier, id_cmp, same_id}
use Rattle.bg_types.specs.OperationSet.{Node}
use Rattle.bg_types.specs.declared.op.Place.{Place}
use Rattle.bg_types.specs.declared.op.Place.TheVariants.{Root, After}
use Rattle.bg_types.proofs.Interface.{id_cmp-total, same_id-is}
use Rattle.rga_tree.specs.Walk.{same_place}

abbrev pub Entry : Type 0
Entry = Identifier × Node

-- what stands below a place, in preorder, among insertions in rising order. A child is greater than its
-- parent, so all below the least insertion is among the others; and greater children come first
abbrev pub walk_among : List Entry → Place → List Entry
walk_among [] place = []
walk_among (e ∷ greater) place = walk_among greater place ++ cond (same_place e.1.parent place) (e ∷ walk_among greater (After e.0)) []

pub turned : (a b : Identifier) → id_cmp a b ≡ Greater → id_cmp b a ≡ Less
turned a b h = id_cmp-total.antisymm b a ∙ ap ordering_reverse h

-- all of them are above the identifier
abbrev pub AreAbove : Identifier → List Entry → Type 0
AreAbove k es = AllByRecursion (λ e. id_cmp k e.0 ≡ Less) es

abbrev pub Rises : List Entry → Type 0
Rises [] = Unit {0}
Rises (e ∷ es) = AreAbove e.0 es × Rises es

-- a place is the root, or an identifier below this one
abbrev pub IsLow : Place → Identifier → Type 0
IsLow Root k = Unit {0}
IsLow (After a) k = id_cmp a k ≡ Less

IsLow-up : (p : Place) (k l : Identifier) → IsLow p k → id_cmp k l ≡ Less → IsLow p l
IsLow-up Root k l low lt = tt
IsLow-up (After a) k l low lt = id_cmp-total.trans a k l low lt

pub AreAbove-up : (j k : Identifier) (es : List Entry) → id_cmp j k ≡ Less → AreAbove k es → AreAbove j es
AreAbove-up j k [] lt h = tt
AreAbove-up j k (e ∷ es) lt h = (id_cmp-total.trans j k e.0 lt h.0, AreAbove-up j k es lt h.1)

pub all_append : (P : Entry → Type 0) (xs ys : List Entry) → AllByRecursion P xs → AllByRecursion P ys → AllByRecursion P (xs ++ ys)
all_append P [] ys p q = q
all_append P (x ∷ xs) ys p q = (p.0, all_append P xs ys p.1 q)

-- what holds of each insertion holds along the walk
pub walk_all : (P : Entry → Type 0) (es : List Entry) (q : Place) → AllByRecursion P es → AllByRecursion P (walk_among es q)
walk_all P [] q h = tt
walk_all P (e ∷ es) q h =
    all_append P (walk_among es q) _ (walk_all P es q h.1)
    (elim (same_place e.1.parent q) as (λ b. AllByRecursion P (cond b (e ∷ walk_among es (After e.0)) [])) [ true ↦ (h.0, walk_all P es (After e.0) h.1) | false ↦ tt ])

-- the new one goes after all that are greater, up to the first that isn't
abbrev pub skip : Entry → List Entry → List Entry
skip n [] = n ∷ []
skip n (x ∷ r) = cond (is_lt (id_cmp n.0 x.0)) (x ∷ skip n r) (n ∷ x ∷ r)

-- after its parent and all that are greater
abbrev pub below : Place → Entry → List Entry → List Entry
below p n [] = []
below p n (x ∷ r) = cond (same_place p (After x.0)) (x ∷ skip n (below p n r)) (x ∷ below p n r)

skip_stops : (n x : Entry) (r s : List Entry) → id_cmp n.0 x.0 ≡ Greater → skip n (r ++ x ∷ s) ≡ skip n r ++ x ∷ s
skip_stops n x [] s gt = ap (λ o. cond (is_lt o) (x ∷ skip n s) (n ∷ x ∷ s)) gt
skip_stops n x (y ∷ r) s gt =
    elim (is_lt (id_cmp n.0 y.0)) as (λ b. cond b (y ∷ skip n (r ++ x ∷ s)) (n ∷ y ∷ (r ++ x ∷ s)) ≡ cond b (y ∷ skip n r) (n ∷ y ∷ r) ++ x ∷ s) [
      | true ↦ ap (λ t. y ∷ t) (skip_stops n x r s gt)
      | false ↦ refl
    ]

skip_all : (n : Entry) (r : List Entry) → AreAbove n.0 r → skip n r ≡ r ++ n ∷ []
skip_all n [] h = refl
skip_all n (x ∷ r) h = ap (λ o. cond (is_lt o) (x ∷ skip n r) (n ∷ x ∷ r)) h.0 ∙ ap (λ t. x ∷ t) (skip_all n r h.1)

-- the first of what stands from x on is x
abbrev first_is : Place → Entry → Entry → List Entry → List Entry
first_is p n x s = cond (same_place p (After x.0)) (skip n (below p n s)) (below p n s)

below_first : (p : Place) (n x : Entry) (s : List Entry) → below p n (x ∷ s) ≡ x ∷ first_is p n x s
below_first p n x s = elim (same_place p (After x.0)) as (λ b. cond b (x ∷ skip n (below p n s)) (x ∷ below p n s) ≡ x ∷ cond b (skip n (below p n s)) (below p n s)) [ true ↦ refl | false ↦ refl ]

below_parts : (p : Place) (n x : Entry) (r s : List Entry) → id_cmp n.0 x.0 ≡ Greater → below p n (r ++ x ∷ s) ≡ below p n r ++ below p n (x ∷ s)
below_parts p n x [] s gt = refl
below_parts p n x (y ∷ r) s gt =
    let rest = below_parts p n x r s gt in
    let skipped : skip n (below p n (r ++ x ∷ s)) ≡ skip n (below p n r) ++ below p n (x ∷ s) =
    ap (skip n) (rest ∙ ap (λ t. below p n r ++ t) (below_first p n x s)) ∙ skip_stops n x (below p n r) (first_is p n x s) gt ∙ ap (λ t. skip n (below p n r) ++ t) (sym (below_first p n x s)) in
    elim (same_place p (After y.0)) as (λ b. cond b (y ∷ skip n (below p n (r ++ x ∷ s))) (y ∷ below p n (r ++ x ∷ s)) ≡ cond b (y ∷ skip n (below p n r)) (y ∷ below p n r) ++ below p n (x ∷ s)) [
      | true ↦ ap (λ t. y ∷ t) skipped
      | false ↦ ap (λ t. y ∷ t) rest
    ]

apart : (a b : Identifier) → id_cmp a b ≡ Less → same_id a b ≡ false
apart a b lt = ap is_eq lt

pub not_at : (p : Place) (k : Identifier) → IsLow p k → same_place p (After k) ≡ false
not_at Root k low = refl
not_at (After a) k low = apart a k low

pub below_none : (p : Place) (n : Entry) (r : List Entry) → AllByRecursion (λ e. IsLow p e.0) r → below p n r ≡ r
below_none p n [] h = refl
below_none p n (x ∷ r) h = ap (λ b. cond b (x ∷ skip n (below p n r)) (x ∷ below p n r)) (not_at p x.0 h.0) ∙ ap (λ t. x ∷ t) (below_none p n r h.1)

-- what the test of places means
pub same_is : (p q : Place) → same_place p q ≡ true → p ≡ q
same_is Root Root h = refl
same_is Root (After b) h = absurd cc
same_is (After a) Root h = absurd cc
same_is (After a) (After b) h = ap After (same_id-is a b h)

-- no insertion has the identifier as its parent
abbrev pub IsChildless : Identifier → List Entry → Type 0
IsChildless k es = AllByRecursion (λ e. same_place e.1.parent (After k) ≡ false) es

-- each parent is below its child
abbrev pub AreWellFounded : List Entry → Type 0
AreWellFounded es = AllByRecursion (λ e. IsLow e.1.parent e.0) es

no_children : (k : Identifier) (es : List Entry) → IsChildless k es → walk_among es (After k) ≡ []
no_children k [] h = refl
no_children k (e ∷ es) h =
    ap (λ b. walk_among es (After k) ++ cond b (e ∷ walk_among es (After e.0)) []) h.0 ∙ append-nil (walk_among es (After k)) ∙ no_children k es h.1

pub low_all : (p : Place) (k : Identifier) (es : List Entry) → IsLow p k → AreAbove k es → AllByRecursion (λ e. IsLow p e.0) es
low_all p k [] low h = tt
low_all p k (e ∷ es) low h = (IsLow-up p k e.0 low h.0, low_all p k es low h.1)

abbrev pub with_new : Entry → List Entry → List Entry
with_new n es = put id_cmp n.0 n.1 es

-- the new one among the walk below q
abbrev pub among : Entry → Place → List Entry → List Entry
among n q r = cond (same_place n.1.parent q) (skip n r) (below n.1.parent n r)

-- what is walked from x on
from : Entry → List Entry → Place → List Entry
from x rest q = cond (same_place x.1.parent q) (x ∷ walk_among rest (After x.0)) []

walk_least : (n : Entry) (es : List Entry) (q : Place) → AreAbove n.0 es → IsChildless n.0 es → IsLow n.1.parent n.0 → walk_among (n ∷ es) q ≡ among n q (walk_among es q)
walk_least n es q above childless low =
    let w = walk_among es q in
    let single : walk_among (n ∷ es) q ≡ w ++ cond (same_place n.1.parent q) (n ∷ []) [] =
    ap (λ t. w ++ cond (same_place n.1.parent q) (n ∷ t) []) (no_children n.0 es childless) in
    single ∙ elim (same_place n.1.parent q) as (λ b. w ++ cond b (n ∷ []) [] ≡ cond b (skip n w) (below n.1.parent n w)) [
      | true ↦ sym (skip_all n w (walk_all (λ e. id_cmp n.0 e.0 ≡ Less) es q above))
      | false ↦ append-nil w ∙ sym (below_none n.1.parent n w (walk_all (λ e. IsLow n.1.parent e.0) es q (low_all n.1.parent n.0 es low above)))
    ]

-- x, and what stands below it afterwards
below_least : (n x : Entry) (rest new : List Entry) → AreAbove x.0 rest → new ≡ among n (After x.0) (walk_among rest (After x.0))
    → x ∷ new ≡ below n.1.parent n (x ∷ walk_among rest (After x.0))
below_least n x rest new above is =
    let p = n.1.parent in
    let w = walk_among rest (After x.0) in
    let same : (b : Bool) → same_place p (After x.0) ≡ b → cond b (skip n w) (below p n w) ≡ cond b (skip n (below p n w)) (below p n w) =
    λ b. elim b as (λ b. same_place p (After x.0) ≡ b → cond b (skip n w) (below p n w) ≡ cond b (skip n (below p n w)) (below p n w)) [
      | true ↦ λ at. ap (skip n) (sym (below_none p n w (subst (λ r. AllByRecursion (λ e. IsLow r e.0) w) (sym (same_is p (After x.0) at)) (walk_all (λ e. id_cmp x.0 e.0 ≡ Less) rest (After x.0) above))))
      | false ↦ λ _. refl
    ] in
    ap (λ t. x ∷ t) (is ∙ same (same_place p (After x.0)) refl) ∙ sym (below_first p n x w)

walk_later : (n x : Entry) (rest : List Entry) (q : Place) → id_cmp n.0 x.0 ≡ Greater → AreAbove x.0 rest → IsLow x.1.parent x.0
    → walk_among (with_new n rest) q ≡ among n q (walk_among rest q) → walk_among (with_new n rest) (After x.0) ≡ among n (After x.0) (walk_among rest (After x.0))
    → walk_among (x ∷ with_new n rest) q ≡ among n q (walk_among (x ∷ rest) q)
walk_later n x rest q gt above low ih ih-x =
    let p = n.1.parent in
    let w = walk_among rest q in
    let v = walk_among rest (After x.0) in
    let tail = below_least n x rest (walk_among (with_new n rest) (After x.0)) above ih-x in
    let joined : same_place x.1.parent q ≡ true → (c : Bool) → same_place p q ≡ c → cond c (skip n w) (below p n w) ++ below p n (x ∷ v) ≡ cond c (skip n (w ++ x ∷ v)) (below p n (w ++ x ∷ v)) =
    λ here c. elim c as (λ c. same_place p q ≡ c → cond c (skip n w) (below p n w) ++ below p n (x ∷ v) ≡ cond c (skip n (w ++ x ∷ v)) (below p n (w ++ x ∷ v))) [
      | true ↦ λ at.
          let low_x : IsLow p x.0 = subst (λ r. IsLow r x.0) (same_is x.1.parent q here ∙ sym (same_is p q at)) low in
          let same : below p n (x ∷ v) ≡ x ∷ v = below_none p n (x ∷ v) (low_x, walk_all (λ e. IsLow p e.0) rest (After x.0) (low_all p x.0 rest low_x above)) in
          ap (λ t. skip n w ++ t) same ∙ sym (skip_stops n x w v gt)
      | false ↦ λ _. sym (below_parts p n x w v gt)
    ] in
    let split : (b : Bool) → same_place x.1.parent q ≡ b → walk_among (with_new n rest) q ++ cond b (x ∷ walk_among (with_new n rest) (After x.0)) [] ≡ among n q (w ++ cond b (x ∷ v) []) =
    λ b. elim b as (λ b. same_place x.1.parent q ≡ b → walk_among (with_new n rest) q ++ cond b (x ∷ walk_among (with_new n rest) (After x.0)) [] ≡ among n q (w ++ cond b (x ∷ v) [])) [
      | true ↦ λ here. (λ i. ih i ++ tail i) ∙ joined here (same_place p q) refl
      | false ↦ λ _. append-nil (walk_among (with_new n rest) q) ∙ ih ∙ ap (among n q) (sym (append-nil w))
    ] in
    split (same_place x.1.parent q) refl

-- the walk with one more insertion, which is new and has no child
pub walk-with_new : (n : Entry) (es : List Entry) (q : Place) → Rises es → AreWellFounded es → IsChildless n.0 es → IsLow n.1.parent n.0
    → AllByRecursion (λ e. is_eq (id_cmp n.0 e.0) ≡ false) es → walk_among (with_new n es) q ≡ among n q (walk_among es q)
walk-with_new n [] q rises founded childless low new = refl
walk-with_new n (x ∷ rest) q rises founded childless low new =
    let place : (o : Ordering) → id_cmp n.0 x.0 ≡ o → walk_among (by_order o (n ∷ x ∷ rest) ((x.0, n.1) ∷ rest) (x ∷ with_new n rest)) q ≡ among n q (walk_among (x ∷ rest) q) =
    λ o. elim o as (λ o. id_cmp n.0 x.0 ≡ o → walk_among (by_order o (n ∷ x ∷ rest) ((x.0, n.1) ∷ rest) (x ∷ with_new n rest)) q ≡ among n q (walk_among (x ∷ rest) q)) [
      | Less ↦ λ lt. walk_least n (x ∷ rest) q (lt, AreAbove-up n.0 x.0 rest lt rises.0) childless low
      | Equal ↦ λ tie. let b : is_eq (id_cmp n.0 x.0) ≡ true = ap is_eq tie in let c = new.0 in absurd cc
      | Greater ↦ λ gt. walk_later n x rest q gt rises.0 founded.0 (walk-with_new n rest q rises.1 founded.1 childless.1 low new.1) (walk-with_new n rest (After x.0) rises.1 founded.1 childless.1 low new.1)
    ] in
    place (id_cmp n.0 x.0) refl
