-- The walk lists no identifier twice.
use Rattle.std.proofs.Common.{◌≡◌, true, false, cond, List, [], ◌∷◌, ◌++◌, refl, sym, ap, subst, ◌∙◌}
use Rattle.std.specs.Prelude.{map as each}
use Rattle.std.specs.List.{AllByRecursion, IsDistinct}
use Rattle.std.specs.declared.cmp.Ordering.TheVariants.{Less}
use Rattle.std.specs.Ordering.{is_eq, ordering_reverse}
use Rattle.bg_types.specs.Identifier.{id_cmp, same_id}
use Rattle.bg_types.specs.OperationSet.{OperationSet, AllWellFormed}
use Rattle.bg_types.specs.declared.op.Place.{Place}
use Rattle.bg_types.specs.declared.op.Place.TheVariants.{Root, After}
use Rattle.bg_types.proofs.Interface.{all_weaker, all_both, id_cmp-total, same_id-is, same_id-itself}
use Rattle.rga_tree.specs.Walk.{same_place, walk, walked_ids}
use Rattle.rga_tree.proofs.WalkAmong.{Entry, walk_among, Rises, AreWellFounded, IsLow, all_append, low_all, not_at, walk_all, same_is}
use Rattle.rga_tree.proofs.Entries.{IsAbsent, entries_of, Rises-entries, AreWellFounded-entries}
use Rattle.rga_tree.proofs.Depth.{walk-among}
use Rattle.rga_tree.proofs.RowPlaces.{AreDistinct}
use Rattle.rga_tree.proofs.AttachedWalk.{same_place-itself}

-- the first place on a chain of parents that is none of these, which stand in rising order
abbrev top_among : List Entry → Place → Place
top_among [] p = p
top_among (x ∷ rest) p = cond (same_place (top_among rest p) (After x.0)) x.1.parent (top_among rest p)

-- a place below all of these is its own top
top-low : (es : List Entry) (p : Place) → AllByRecursion (λ e. IsLow p e.0) es → top_among es p ≡ p
top-low [] p h = refl
top-low (x ∷ rest) p h =
    let inner = top-low rest p h.1 in
    ap (λ t. cond (same_place t (After x.0)) x.1.parent t) inner ∙ ap (λ b. cond b x.1.parent p) (not_at p x.0 h.0)

-- what stands below a place has it as its top
top-walk : (es : List Entry) (q : Place) → Rises es → AreWellFounded es → AllByRecursion (λ e. IsLow q e.0) es → AllByRecursion (λ y. top_among es (After y.0) ≡ q) (walk_among es q)
top-walk [] q rises founded low = tt
top-walk (x ∷ rest) q rises founded low =
    let tops = λ (p : Place) (y : Entry). top_among rest (After y.0) ≡ p in
    let P : Entry → Type 0 = λ y. top_among (x ∷ rest) (After y.0) ≡ q in
    let others : AllByRecursion P (walk_among rest q) =
    all_weaker (tops q) P (λ y h. ap (λ t. cond (same_place t (After x.0)) x.1.parent t) h ∙ ap (λ b. cond b x.1.parent q) (not_at q x.0 low.0))
    (walk_among rest q) (top-walk rest q rises.1 founded.1 low.1) in
    let through : same_place x.1.parent q ≡ true → (t : Place) → t ≡ After x.0 → cond (same_place t (After x.0)) x.1.parent t ≡ q =
    λ at t h. ap (λ t. cond (same_place t (After x.0)) x.1.parent t) h ∙ ap (λ b. cond b x.1.parent (After x.0)) (same_id-itself x.0) ∙ same_is x.1.parent q at in
    elim (same_place x.1.parent q) as (λ b. same_place x.1.parent q ≡ b → AllByRecursion P (walk_among rest q ++ cond b (x ∷ walk_among rest (After x.0)) [])) [
      | true ↦ λ at.
          all_append P (walk_among rest q) (x ∷ walk_among rest (After x.0)) others (
            through at (top_among rest (After x.0)) (top-low rest (After x.0) rises.0),
            all_weaker (tops (After x.0)) P (λ y h. through at (top_among rest (After y.0)) h) (walk_among rest (After x.0)) (top-walk rest (After x.0) rises.1 founded.1 rises.0),
          )
      | false ↦ λ _. all_append P (walk_among rest q) [] others tt
    ] refl

AreDistinct-append : (xs ys : List Entry) → AreDistinct xs → AreDistinct ys → AllByRecursion (λ a. IsAbsent a.0 ys) xs → AreDistinct (xs ++ ys)
AreDistinct-append [] ys p q apart = q
AreDistinct-append (x ∷ xs) ys p q apart = (all_append (λ e. same_id x.0 e.0 ≡ false) xs ys p.0 apart.0, AreDistinct-append xs ys p.1 q apart.1)

-- an identifier with another top is another identifier
other_top : (es ys : List Entry) (a : Entry) (p q : Place) → same_place p q ≡ false → top_among es (After a.0) ≡ p → AllByRecursion (λ y. top_among es (After y.0) ≡ q) ys → IsAbsent a.0 ys
other_top es ys a p q apart at h =
    all_weaker {A = Entry} (λ y. top_among es (After y.0) ≡ q) (λ y. same_id a.0 y.0 ≡ false)
    (λ y there. elim (same_id a.0 y.0) as (λ b. same_id a.0 y.0 ≡ b → b ≡ false) [
      | true ↦ λ same.
          let one : p ≡ q = sym at ∙ ap (λ i. top_among es (After i)) (same_id-is a.0 y.0 same) ∙ there in
          let again : same_place q q ≡ false = ap (λ r. same_place r q) (sym one) ∙ apart in
          let itself = same_place-itself q in absurd cc
      | false ↦ λ _. refl
    ] refl) ys h

pub AreDistinct-walk : (es : List Entry) (q : Place) → Rises es → AreWellFounded es → AreDistinct (walk_among es q)
AreDistinct-walk [] q rises founded = tt
AreDistinct-walk (x ∷ rest) q rises founded =
    let w = walk_among rest q in
    let v = walk_among rest (After x.0) in
    let distinct_w = AreDistinct-walk rest q rises.1 founded.1 in
    let above_w : AllByRecursion (λ e. id_cmp x.0 e.0 ≡ Less) w = walk_all (λ e. id_cmp x.0 e.0 ≡ Less) rest q rises.0 in
    let above_v : AllByRecursion (λ e. id_cmp x.0 e.0 ≡ Less) v = walk_all (λ e. id_cmp x.0 e.0 ≡ Less) rest (After x.0) rises.0 in
    elim (same_place x.1.parent q) as (λ b. same_place x.1.parent q ≡ b → AreDistinct (w ++ cond b (x ∷ v) [])) [
      | true ↦ λ at.
          let low_x : IsLow q x.0 = subst (λ p. IsLow p x.0) (same_is x.1.parent q at) founded.0 in
          let tops_w = top-walk rest q rises.1 founded.1 (low_all q x.0 rest low_x rises.0) in
          let tops_v = top-walk rest (After x.0) rises.1 founded.1 rises.0 in
          let both = all_both (λ a. id_cmp x.0 a.0 ≡ Less) (λ a. top_among rest (After a.0) ≡ q) w above_w tops_w in
          AreDistinct-append w (x ∷ v) distinct_w (all_weaker (λ e. id_cmp x.0 e.0 ≡ Less) (λ e. same_id x.0 e.0 ≡ false) (λ e h. ap is_eq h) v above_v, AreDistinct-walk rest (After x.0) rises.1 founded.1)
          (all_weaker (λ a. (id_cmp x.0 a.0 ≡ Less) × (top_among rest (After a.0) ≡ q)) (λ a. IsAbsent a.0 (x ∷ v))
          (λ a h. (ap is_eq (id_cmp-total.antisymm a.0 x.0 ∙ ap ordering_reverse h.0), other_top rest v a q (After x.0) (not_at q x.0 low_x) h.1 tops_v)) w both)
      | false ↦ λ _. AreDistinct-append w [] distinct_w tt (all_weaker (λ e. id_cmp x.0 e.0 ≡ Less) (λ a. IsAbsent a.0 []) (λ a h. tt) w above_w)
    ] refl

pub AreDistinct-walked : (s : OperationSet) → AllWellFormed s → AreDistinct (walk s Root)
AreDistinct-walked s well = subst AreDistinct (sym (walk-among s Root well)) (AreDistinct-walk (entries_of s) Root (Rises-entries s) (AreWellFounded-entries s well))

IsDistinct-ids : (es : List Entry) → AreDistinct es → IsDistinct same_id (each (λ e. e.0) es)
unfolding IsDistinct
IsDistinct-ids [] h = tt
IsDistinct-ids (e ∷ es) h = (others es h.0, IsDistinct-ids es h.1) where
  others : (es : List Entry) → IsAbsent e.0 es → AllByRecursion (λ y. same_id e.0 y ≡ false) (each (λ x. x.0) es)
  others [] h = tt
  others (x ∷ es) h = (h.0, others es h.1)

pub IsDistinct-walked : (s : OperationSet) → AllWellFormed s → IsDistinct same_id (walked_ids s)
IsDistinct-walked s well = IsDistinct-ids (walk s Root) (AreDistinct-walked s well)
