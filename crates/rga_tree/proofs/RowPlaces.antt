-- Where a new insertion goes in a walk, as a place in the row of its elements.
use Rattle.std.proofs.Common.{◌≡◌, ℕ, suc, ◌≤◌, ◌+◌, Bool, true, false, cond, not, ◌||◌, List, [], ◌∷◌, length, drop, refl, sym, ap, subst, ◌∙◌, zero-add, arith}
use Rattle.std.specs.Prelude.{map as each, insert}
use Rattle.std.specs.Ordering.{is_lt}
use Rattle.std.specs.List.{list_any, prefix_len}
use Rattle.std.proofs.lemmas.List.{drop-map, length-map}
use Rattle.bg_types.specs.Identifier.{Identifier, id_cmp, same_id}
use Rattle.bg_types.specs.OperationSet.{OperationSet}
use Rattle.bg_types.specs.declared.op.Place.{Place}
use Rattle.bg_types.specs.declared.op.Place.TheVariants.{Root, After}
use Rattle.bg_types.proofs.Interface.{same_id-is}
use Rattle.rga_tree.specs.Walk.{same_place}
use Rattle.rga_tree.specs.Elements.{element_of}
use Rattle.rga_tree.specs.Row.{ids_of, is_distinct, start_of, place_of}
use Rattle.rga_tree.proofs.WalkAmong.{Entry, skip, below, among}
use Rattle.rga_tree.proofs.Entries.{IsAbsent}
use Rattle.std.proofs.lemmas.Bool.{and_parts}

pub skip-insert : (n : Entry) (r : List Entry) → skip n r ≡ insert r (prefix_len (λ e. is_lt (id_cmp n.0 e.0)) r) n
skip-insert n [] = refl
skip-insert n (x ∷ r) =
    let k = prefix_len (λ e. is_lt (id_cmp n.0 e.0)) r in
    elim (is_lt (id_cmp n.0 x.0)) as (λ b. cond b (x ∷ skip n r) (n ∷ x ∷ r) ≡ insert (x ∷ r) (cond b (1 + k) 0) n) [
      | true ↦ let e : 1 + k ≡ suc k = omega arith in rw e (ap (λ t. x ∷ t) (skip-insert n r))
      | false ↦ refl
    ]

pub below_absent : (a : Identifier) (n : Entry) (r : List Entry) → IsAbsent a r → below (After a) n r ≡ r
below_absent a n [] h = refl
below_absent a n (x ∷ r) h = ap (λ b. cond b (x ∷ skip n (below (After a) n r)) (x ∷ below (After a) n r)) h.0 ∙ ap (λ t. x ∷ t) (below_absent a n r h.1)

abbrev pub AreDistinct : List Entry → Type 0
AreDistinct [] = Unit {0}
AreDistinct (x ∷ r) = IsAbsent x.0 r × AreDistinct r

-- where after a
abbrev pub behind : Identifier → Identifier → List Entry → ℕ
behind a k es = let start = prefix_len (λ e. not (same_id a e.0)) es + 1 in start + prefix_len (λ e. is_lt (id_cmp k e.0)) (drop start es)

pub below-insert : (a : Identifier) (n : Entry) (r : List Entry) → AreDistinct r → prefix_len (λ e. not (same_id a e.0)) r + 1 ≤ length r → below (After a) n r ≡ insert r (behind a n.0 r) n
below-insert a n [] distinct stands = absurd (omega arith)
below-insert a n (x ∷ r) distinct stands =
    let other = λ (e : Entry). not (same_id a e.0) in
    let greater = λ (e : Entry). is_lt (id_cmp n.0 e.0) in
    let k = prefix_len other r in
    let at : Bool → ℕ = λ b. cond (not b) (1 + k) 0 + 1 in
    elim (same_id a x.0) as (λ b. same_id a x.0 ≡ b → at b ≤ length (x ∷ r) → cond b (x ∷ skip n (below (After a) n r)) (x ∷ below (After a) n r) ≡ insert (x ∷ r) (at b + prefix_len greater (drop (at b) (x ∷ r))) n) [
      | true ↦ λ here _.
          let absent : IsAbsent a r = subst (λ c. IsAbsent c r) (sym (same_id-is a x.0 here)) distinct.0 in
          let e : 1 + prefix_len greater r ≡ suc (prefix_len greater r) = omega arith in
          rw e (ap (λ t. x ∷ t) (ap (skip n) (below_absent a n r absent) ∙ skip-insert n r))
      | false ↦ λ _ long.
          let e : 1 + k + 1 ≡ suc (k + 1) = omega arith in
          let f : suc (k + 1) + prefix_len greater (drop (k + 1) r) ≡ suc (k + 1 + prefix_len greater (drop (k + 1) r)) = omega arith in
          let rest = below-insert a n r distinct.1 (omega arith) in
          rw (e, f) (ap (λ t. x ∷ t) rest)
    ] refl stands

len_seen : (p : Identifier → Bool) (s : OperationSet) (es : List Entry) → prefix_len (λ e. p e.id) (each (element_of s) es) ≡ prefix_len (λ e. p e.0) es
len_seen p s [] = refl
len_seen p s (e ∷ es) = ap (λ k. cond (p e.0) (1 + k) 0) (len_seen p s es)

-- the place by the row is the place by the walk
place_by_walk : (a k : Identifier) (s : OperationSet) (es : List Entry) → place_of (After a) k (each (element_of s) es) ≡ behind a k es
place_by_walk a k s es =
    let start = len_seen (λ i. not (same_id a i)) s es in
    ap (λ n. n + 1 + prefix_len (λ e. is_lt (id_cmp k e.id)) (drop (n + 1) (each (element_of s) es))) start
    ∙ (let n = prefix_len (λ e. not (same_id a e.0)) es + 1 in ap (λ m. n + m) (ap (prefix_len (λ e. is_lt (id_cmp k e.id))) (drop-map (element_of s) n es) ∙ len_seen (λ i. is_lt (id_cmp k i)) s (drop n es)))

absent_seen : (a : Identifier) (s : OperationSet) (es : List Entry) → not (list_any (same_id a) (ids_of (each (element_of s) es))) ≡ true → IsAbsent a es
absent_seen a s [] h = tt
absent_seen a s (e ∷ es) h =
    elim (same_id a e.0) as (λ b. not (b || list_any (same_id a) (ids_of (each (element_of s) es))) ≡ true → (b ≡ false) × IsAbsent a es) [
      | true ↦ λ h. absurd cc
      | false ↦ λ h. (refl, absent_seen a s es h)
    ] h

pub distinct_of : (s : OperationSet) (es : List Entry) → is_distinct (ids_of (each (element_of s) es)) ≡ true → AreDistinct es
distinct_of s [] h = tt
distinct_of s (e ∷ es) h =
    let p = and_parts (not (list_any (same_id e.0) (ids_of (each (element_of s) es)))) (is_distinct (ids_of (each (element_of s) es))) h in
    (absent_seen e.0 s es p.0, distinct_of s es p.1)

pub among-insert : (s : OperationSet) (n : Entry) (es : List Entry) → AreDistinct es → start_of n.1.parent (each (element_of s) es) ≤ length (each (element_of s) es)
    → among n Root es ≡ insert es (place_of n.1.parent n.0 (each (element_of s) es)) n
among-insert s n es distinct within = by_parent n.1.parent within where
  by_parent : (p : Place) → start_of p (each (element_of s) es) ≤ length (each (element_of s) es) → cond (same_place p Root) (skip n es) (below p n es) ≡ insert es (place_of p n.0 (each (element_of s) es)) n
  by_parent Root within = skip-insert n es ∙ ap (λ k. insert es k n) (sym (zero-add (prefix_len (λ e. is_lt (id_cmp n.0 e.id)) (each (element_of s) es)) ∙ len_seen (λ i. is_lt (id_cmp n.0 i)) s es))
  by_parent (After a) within =
      below-insert a n es distinct (omega (arith, len_seen (λ i. not (same_id a i)) s es, length-map es (element_of s))) ∙ ap (λ k. insert es k n) (sym (place_by_walk a n.0 s es))
