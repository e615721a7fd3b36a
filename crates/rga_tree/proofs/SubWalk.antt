-- The walk of a part of a set: that of the set, without what is not attached in the part.
use Rattle.std.proofs.Common.{◌≡◌, ℕ, zero, suc, ◌≤◌, Bool, true, false, cond, ◌||◌, List, [], ◌∷◌, ◌++◌, length, Option, Some, None, refl, sym, ap, subst, ◌∙◌, arith}
use Rattle.std.specs.Prelude.{◌↔◌, map as each, filter, reverse, is_some}
use Rattle.std.specs.List.{AllByRecursion, flat_map, list_any}
use Rattle.std.proofs.lemmas.List.{append-nil, reverse-append}
use Rattle.std.proofs.lemmas.List.Concat.{flat_map-cons}
use Rattle.std.proofs.lemmas.List.Elements.{filter-append}
use Rattle.std.proofs.lemmas.List.Sums.{length-filter, count_by-le-length}
use Rattle.std.specs.FinMap as map
use Rattle.std.specs.FinMap.Entries.{where_key, is_sorted-where_key, find-where_key, same_entries}
use Rattle.bg_types.specs.Identifier.{Identifier, id_cmp, same_id}
use Rattle.bg_types.specs.OperationSet.{Node, OperationSet, AllWellFormed}
use Rattle.bg_types.specs.declared.op.Place.{Place}
use Rattle.bg_types.specs.declared.op.Place.TheVariants.{Root, After}
use Rattle.bg_types.specs.declared.op.OpView.TheVariants.{Insert}
use Rattle.bg_types.proofs.Interface.{id_cmp-total, id_cmp-exact}
use Rattle.rga_tree.specs.Walk.{same_place, children, walk_to, walk}
use Rattle.rga_tree.specs.Attached.{IsAttached, is_attached}
use Rattle.rga_tree.specs.Attached.IsAttached.{below_root, below}
use Rattle.rga_tree.specs.Parts.{IsPartOf}
use Rattle.rga_tree.proofs.WalkAmong.{Entry, AreWellFounded, IsLow}
use Rattle.rga_tree.proofs.Entries.{entries_of, AreWellFounded-entries}
use Rattle.rga_tree.proofs.Preorder.{all_filter}
use Rattle.rga_tree.proofs.Depth.{walk_to-among}
use Rattle.rga_tree.proofs.Listed.{is_listed}
use Rattle.rga_tree.proofs.AttachedWalk.{IsReached, IsAttached-child, all_children, all_flat_map, listed-attached, attached-listed}

-- ---- filters

pub filter_swap : (p q : Entry → Bool) (es : List Entry) → filter p (filter q es) ≡ filter q (filter p es)
filter_swap p q [] = refl
filter_swap p q (e ∷ es) =
    let rest = filter_swap p q es in
    elim (p e) as (λ b. p e ≡ b → filter p (cond (q e) (e ∷ filter q es) (filter q es)) ≡ filter q (cond b (e ∷ filter p es) (filter p es))) [
      | true ↦ λ at. elim (q e) as (λ c. filter p (cond c (e ∷ filter q es) (filter q es)) ≡ cond c (e ∷ filter q (filter p es)) (filter q (filter p es))) [
        | true ↦ ap (λ b. cond b (e ∷ filter p (filter q es)) (filter p (filter q es))) at ∙ ap (λ r. e ∷ r) rest
        | false ↦ rest
      ]
      | false ↦ λ at. elim (q e) as (λ c. filter p (cond c (e ∷ filter q es) (filter q es)) ≡ filter q (filter p es)) [
        | true ↦ ap (λ b. cond b (e ∷ filter p (filter q es)) (filter p (filter q es))) at ∙ rest
        | false ↦ rest
      ]
    ] refl

filter_one : (p : Entry → Bool) (e : Entry) (es : List Entry) → filter p es ++ filter p (e ∷ []) ≡ cond (p e) (filter p es ++ e ∷ []) (filter p es)
filter_one p e es = elim (p e) as (λ b. filter p es ++ cond b (e ∷ []) [] ≡ cond b (filter p es ++ e ∷ []) (filter p es)) [ true ↦ refl | false ↦ append-nil (filter p es) ]

filter_reverse : (p : Entry → Bool) (es : List Entry) → reverse (filter p es) ≡ filter p (reverse es)
filter_reverse p [] = refl
filter_reverse p (e ∷ es) =
    let rest = filter_reverse p es in
    elim (p e) as (λ b. reverse (cond b (e ∷ filter p es) (filter p es)) ≡ cond b (filter p (reverse es) ++ e ∷ []) (filter p (reverse es))) [
      | true ↦ reverse-append (e ∷ []) (filter p es) ∙ ap (λ r. r ++ e ∷ []) rest
      | false ↦ rest
    ] ∙ sym (filter_one p e (reverse es)) ∙ sym (filter-append p (reverse es) (e ∷ [])) ∙ ap (filter p) (sym (reverse-append (e ∷ []) es))

pub filter_none : (p : Entry → Bool) (es : List Entry) → AllByRecursion (λ e. p e ≡ false) es → filter p es ≡ []
filter_none p [] h = refl
filter_none p (e ∷ es) h = ap (λ b. cond b (e ∷ filter p es) (filter p es)) h.0 ∙ filter_none p es h.1

pub filter_all : (p : Entry → Bool) (es : List Entry) → AllByRecursion (λ e. p e ≡ true) es → filter p es ≡ es
filter_all p [] h = refl
filter_all p (e ∷ es) h = ap (λ b. cond b (e ∷ filter p es) (filter p es)) h.0 ∙ ap (λ r. e ∷ r) (filter_all p es h.1)

-- a filter of what the elements give, where it keeps all that some give and nothing that the others give
filter-flat_map : (p q : Entry → Bool) (f g : Entry → List Entry) (es : List Entry) → AllByRecursion (λ e. filter p (f e) ≡ cond (q e) (g e) []) es
    → filter p (flat_map f es) ≡ flat_map g (filter q es)
filter-flat_map p q f g [] h = refl
filter-flat_map p q f g (e ∷ es) h =
    let rest = filter-flat_map p q f g es h.1 in
    ap (filter p) (flat_map-cons f e es) ∙ filter-append p (f e) (flat_map f es) ∙ (λ i. h.0 i ++ rest i)
    ∙ elim (q e) as (λ b. cond b (g e) [] ++ flat_map g (filter q es) ≡ flat_map g (cond b (e ∷ filter q es) (filter q es))) [
      | true ↦ sym (flat_map-cons g e (filter q es))
      | false ↦ refl
    ]

-- ---- parts

-- each insertion of s is one of t
abbrev pub IsInsertedPart : OperationSet → OperationSet → Type 0
IsInsertedPart s t = (q : Identifier) (node : Node) → map.get s.ins q ≡ Some node → map.get t.ins q ≡ Some node

pub inserted_part : (s t : OperationSet) → IsPartOf s t → IsInsertedPart s t
inserted_part s t part q node = part (Insert q node.parent node.ch)

abbrev pub has : OperationSet → Identifier → Bool
has s q = map.contains_key s.ins q

get-part : (s t : OperationSet) (q : Identifier) → IsInsertedPart s t → map.get s.ins q ≡ cond (has s q) (map.get t.ins q) None
get-part s t q part = by_look (map.get s.ins q) refl where
  by_look : (o : Option Node) → map.get s.ins q ≡ o → o ≡ cond (is_some o) (map.get t.ins q) None
  by_look None is = refl
  by_look (Some node) is = sym (part q node is)

-- the insertions of the part, in rising order
pub entries-part : (s t : OperationSet) → IsInsertedPart s t → entries_of s ≡ where_key id_cmp (has s) (entries_of t)
entries-part s t part =
    same_entries id_cmp id_cmp-total id_cmp-exact (entries_of s) (where_key id_cmp (has s) (entries_of t)) (map.entries_sorted s.ins)
    (is_sorted-where_key id_cmp (has s) (entries_of t) (map.entries_sorted t.ins))
    (λ q. sym (map.get-entries s.ins q) ∙ get-part s t q part ∙ ap (λ o. cond (has s q) o None) (map.get-entries t.ins q)
    ∙ sym (find-where_key id_cmp (has s) q (λ x tie. ap (has s) (sym (id_cmp-exact q x tie))) (entries_of t)))

children-part : (s t : OperationSet) (q : Place) → IsInsertedPart s t → children s.ins q ≡ filter (λ e. has s e.0) (children t.ins q)
children-part s t q part =
    let at = λ (e : Entry). same_place e.1.parent q in
    let kept = λ (e : Entry). has s e.0 in
    ap (λ es. reverse (filter at es)) (entries-part s t part) ∙ ap reverse (filter_swap at kept (entries_of t)) ∙ filter_reverse kept (filter at (entries_of t))

pub length-filter_le : (p : Entry → Bool) (es : List Entry) → length (filter p es) ≤ length es
length-filter_le p es = omega (arith, length-filter p es, count_by-le-length p es)

-- ---- what the part has attached

pub is_had : (ins : map.FinMap id_cmp Node) {id : Identifier} → IsAttached ins id → map.contains_key ins id ≡ true
is_had ins (below_root id ch is) = ap is_some is
is_had ins (below id parent ch is up) = ap is_some is

-- where t names p as q's parent and q is attached in s, p is attached in s
pub attached_parent : (s t : OperationSet) (p q : Identifier) (node : Node) → IsInsertedPart s t → map.get t.ins q ≡ Some node → node.parent ≡ After p → IsAttached s.ins q → IsAttached s.ins p
attached_parent s t p q node part held at (below_root id ch is) =
    let same : Some node ≡ Some (record { parent = Root; ch = ch }) = sym held ∙ part q (record { parent = Root; ch = ch }) is in absurd cc
attached_parent s t p q node part held at (below id parent ch is up) =
    let same : Some node ≡ Some (record { parent = After parent; ch = ch }) = sym held ∙ part q (record { parent = After parent; ch = ch }) is in
    let one : parent ≡ p = cc in
    subst (IsAttached s.ins) one up

module _ (s t : OperationSet) (part : IsInsertedPart s t) (keep : Identifier → Bool) (test : (id : Identifier) → (keep id ≡ true) ↔ IsAttached s.ins id) where
  not_kept : (id : Identifier) → (IsAttached s.ins id → ⊥) → keep id ≡ false
  not_kept id apart = elim (keep id) as (λ b. keep id ≡ b → b ≡ false) [ true ↦ λ at. absurd (apart ((test id).0 at)) | false ↦ λ _. refl ] refl

  -- nothing below what is not attached
  none_below : (depth : ℕ) (p : Identifier) → (IsAttached s.ins p → ⊥) → AllByRecursion (λ e. keep e.0 ≡ false) (walk_to depth t.ins (After p))
  none_below zero p apart = tt
  none_below (suc depth) p apart =
      let P : Entry → Type 0 = λ e. keep e.0 ≡ false in
      all_flat_map P (λ e. e ∷ walk_to depth t.ins (After e.0)) (children t.ins (After p))
      (all_children t (After p) (λ e. AllByRecursion P (e ∷ walk_to depth t.ins (After e.0)))
      (λ e held at. let out : IsAttached s.ins e.0 → ⊥ = λ up. apart (attached_parent s t p e.0 e.1 part held at up) in (not_kept e.0 out, none_below depth e.0 out)))

  kept_child : (depth : ℕ) (e : Entry) (b : Bool) → has s e.0 ≡ b → map.get t.ins e.0 ≡ Some e.1 → IsReached s.ins e.1.parent
      → (IsAttached s.ins e.0 → walk_to depth s.ins (After e.0) ≡ filter (λ e. keep e.0) (walk_to depth t.ins (After e.0)))
      → filter (λ e. keep e.0) (e ∷ walk_to depth t.ins (After e.0)) ≡ cond b (e ∷ walk_to depth s.ins (After e.0)) []
  kept_child depth e true had held reached more =
      let below = filter (λ (x : Entry). keep x.0) (walk_to depth t.ins (After e.0)) in
      let at : IsAttached s.ins e.0 = IsAttached-child s.ins e.0 e.1 (get-part s t e.0 part ∙ ap (λ c. cond c (map.get t.ins e.0) None) had ∙ held) reached in
      ap (λ c. cond c (e ∷ below) below) ((test e.0).1 at) ∙ ap (λ r. e ∷ r) (sym (more at))
  kept_child depth e false had held reached more =
      let out : IsAttached s.ins e.0 → ⊥ = λ at. let yes = is_had s.ins at in absurd cc in
      filter_none (λ x. keep x.0) (e ∷ walk_to depth t.ins (After e.0)) (not_kept e.0 out, none_below depth e.0 out)

  walk_to-kept : (depth : ℕ) (q : Place) → IsReached s.ins q → walk_to depth s.ins q ≡ filter (λ e. keep e.0) (walk_to depth t.ins q)
  walk_to-kept zero q reached = refl
  walk_to-kept (suc depth) q reached =
      let of_s = λ (e : Entry). e ∷ walk_to depth s.ins (After e.0) in
      let of_t = λ (e : Entry). e ∷ walk_to depth t.ins (After e.0) in
      ap (flat_map of_s) (children-part s t q part)
      ∙ sym (filter-flat_map (λ e. keep e.0) (λ e. has s e.0) of_t of_s (children t.ins q)
      (all_children t q (λ e. filter (λ x. keep x.0) (of_t e) ≡ cond (has s e.0) (of_s e) [])
      (λ e held at. kept_child depth e (has s e.0) refl held (subst (IsReached s.ins) (sym at) reached) (walk_to-kept depth (After e.0)))))

  pub walk-kept : AllWellFormed t → walk s Root ≡ filter (λ e. keep e.0) (walk t Root)
  walk-kept well =
      let lows = all_filter (λ e. IsLow e.1.parent e.0) (λ e. has s e.0) (entries_of t) (AreWellFounded-entries t well) in
      let founded : AreWellFounded (entries_of s) = subst AreWellFounded (sym (entries-part s t part)) lows in
      let fewer : map.len s.ins ≤ map.len t.ins = omega (arith, map.len-entries s.ins, map.len-entries t.ins, ap length (entries-part s t part), length-filter_le (λ e. has s e.0) (entries_of t)) in
      walk_to-among s (map.len s.ins) Root (omega arith) founded ∙ sym (walk_to-among s (map.len t.ins) Root fewer founded) ∙ walk_to-kept (map.len t.ins) Root tt

-- ---- the test of being attached

pub listed_ids : (a : Identifier) (es : List Entry) → list_any (same_id a) (each (λ e. e.0) es) ≡ is_listed a es
listed_ids a [] = refl
listed_ids a (e ∷ es) = ap (λ b. same_id a e.0 || b) (listed_ids a es)

pub is_attached-test : (s : OperationSet) → AllWellFormed s → (id : Identifier) → (is_attached s id ≡ true) ↔ IsAttached s.ins id
is_attached-test s well id = (λ h. attached-listed s id (sym (listed_ids id (walk s Root)) ∙ h), λ at. listed_ids id (walk s Root) ∙ listed-attached s id well at)

pub AllWellFormed-part : (s t : OperationSet) → AllWellFormed t → IsPartOf s t → AllWellFormed s
AllWellFormed-part s t well part op held = well op (part op held)

pub walk-sub_walk : (s t : OperationSet) → AllWellFormed t → IsPartOf s t → walk s Root ≡ filter (λ e. is_attached s e.0) (walk t Root)
walk-sub_walk s t well part =
    walk-kept s t (inserted_part s t part) (is_attached s) (is_attached-test s (AllWellFormed-part s t well part)) well
