-- What stands between a parent and a child of it is greater than the child. So a smaller sibling goes behind that child.
use Rattle.std.proofs.Common.{◌≡◌, ℕ, suc, ◌<◌, ◌+◌, ◌⊎◌, inl, inr, Bool, true, false, cond, not, ◌||◌, List, [], ◌∷◌, ◌++◌, length, take, drop, get_or, add-one, zero-add, refl, sym, ap, subst, ◌∙◌, arith}
use Rattle.std.specs.Prelude.{map as each}
use Rattle.std.specs.declared.cmp.Ordering.{Ordering}
use Rattle.std.specs.declared.cmp.Ordering.TheVariants.{Less, Equal, Greater}
use Rattle.std.specs.Ordering.{is_lt}
use Rattle.std.specs.List.{list_any, prefix_len}
use Rattle.std.proofs.lemmas.List.{take-append-drop, length-take-le}
use Rattle.std.proofs.Math.Seq.{drop-cons}
use Rattle.bg_types.specs.Identifier.{Identifier, id_cmp, same_id}
use Rattle.bg_types.specs.OperationSet.{OperationSet}
use Rattle.bg_types.specs.declared.op.Place.{Place}
use Rattle.bg_types.specs.declared.op.Place.TheVariants.{Root, After}
use Rattle.bg_types.proofs.Interface.{same_id-is, same_id-itself}
use Rattle.rga_tree.specs.declared.element.Element.{Element}
use Rattle.rga_tree.specs.Walk.{same_place, walk}
use Rattle.rga_tree.specs.Elements.{element_of}
use Rattle.rga_tree.specs.Row.{entry_of, operations_of, ids_of, is_distinct, place_of}
use Rattle.rga_tree.specs.KeepsWalk.{KeepsWalk}
use Rattle.rga_tree.proofs.WalkAmong.{Entry, walk_among, AreAbove, AreAbove-up, Rises, walk_all, same_is}
use Rattle.rga_tree.proofs.Entries.{entries_of, Rises-entries}
use Rattle.rga_tree.proofs.Depth.{walk-among}
use Rattle.rga_tree.proofs.Lines.{Ids}
use Rattle.std.proofs.lemmas.Bool.{and_parts, or_right}

-- ---- read backwards from a child

-- at the front of a walk only the root's children have reached their parent
abbrev Ends : Place → Type 0
Ends Root = Unit {0}
Ends (After a) = ⊥

-- these are greater than the child up to its parent, the nearest first
abbrev IsBehind : Place → Identifier → Ids → Type 0
IsBehind p child [] = Ends p
IsBehind p child (x ∷ back) = (same_place p (After x) ≡ true) ⊎ ((id_cmp child x ≡ Less) × IsBehind p child back)

-- so each of them stands, with these before it
abbrev AreBehind : Ids → List Entry → Type 0
AreBehind back [] = Unit {0}
AreBehind back (e ∷ es) = IsBehind e.1.parent e.0 back × AreBehind (e.0 ∷ back) es

abbrev onto : List Entry → Ids → Ids
onto [] back = back
onto (e ∷ es) back = onto es (e.0 ∷ back)

further : (p : Place) (child : Identifier) (es : List Entry) (back : Ids) → AreAbove child es → IsBehind p child back → IsBehind p child (onto es back)
further p child [] back above h = h
further p child (e ∷ es) back above h = further p child es (e.0 ∷ back) above.1 (inr (above.0, h))

AreBehind-append : (back : Ids) (es more : List Entry) → AreBehind back es → AreBehind (onto es back) more → AreBehind back (es ++ more)
AreBehind-append back [] more h g = g
AreBehind-append back (e ∷ es) more h g = (h.0, AreBehind-append (e.0 ∷ back) es more h.1 g)

AreBehind-walk : (es : List Entry) (q : Place) (back : Ids) → Rises es → ((child : Identifier) → IsBehind q child back) → AreBehind back (walk_among es q)
AreBehind-walk [] q back rises at = tt
AreBehind-walk (e ∷ greater) q back rises at =
    let w = walk_among greater q in
    let more : (b : Bool) → same_place e.1.parent q ≡ b → AreBehind (onto w back) (cond b (e ∷ walk_among greater (After e.0)) []) =
    λ b. elim b as (λ b. same_place e.1.parent q ≡ b → AreBehind (onto w back) (cond b (e ∷ walk_among greater (After e.0)) [])) [
      | true ↦ λ here. (
        subst (λ p. IsBehind p e.0 (onto w back)) (sym (same_is e.1.parent q here)) (further q e.0 w back (walk_all (λ x. id_cmp e.0 x.0 ≡ Less) greater q rises.0) (at e.0)),
        AreBehind-walk greater (After e.0) (e.0 ∷ onto w back) rises.1 (λ _. inl (same_id-itself e.0)),
      )
      | false ↦ λ _. tt
    ] in
    AreBehind-append back w _ (AreBehind-walk greater q back rises.1 at) (more (same_place e.1.parent q) refl)

entries_seen : (s : OperationSet) (es : List Entry) → each entry_of (each (element_of s) es) ≡ es
entries_seen s [] = refl
entries_seen s (e ∷ es) = ap (λ r. e ∷ r) (entries_seen s es)

AreBehind-row : (row : List Element) → KeepsWalk row → AreBehind [] (each entry_of row)
AreBehind-row row keeps =
    let s = operations_of row in
    let walked : each entry_of row ≡ walk_among (entries_of s) Root =
    ap (each entry_of) keeps.in_order ∙ entries_seen s (walk s Root) ∙ walk-among s Root keeps.well_formed in
    subst (AreBehind []) (sym walked) (AreBehind-walk (entries_of s) Root [] (Rises-entries s) (λ _. tt))

-- ---- read forwards from the parent

-- the parent is among them, and those after it are greater than the child
abbrev HasParent : Place → Identifier → List Entry → Type 0
HasParent p child [] = ⊥
HasParent p child (e ∷ es) = ((same_place p (After e.0) ≡ true) × AreAbove child es) ⊎ HasParent p child es

forwards : (p : Place) (child : Identifier) (es : List Entry) (back : Ids) → IsBehind p child (onto es back) → (IsBehind p child back × AreAbove child es) ⊎ HasParent p child es
forwards p child [] back h = inl (h, tt)
forwards p child (e ∷ es) back h = by_place (forwards p child es (e.0 ∷ back) h) where
  by_place : (IsBehind p child (e.0 ∷ back) × AreAbove child es) ⊎ HasParent p child es → (IsBehind p child back × AreAbove child (e ∷ es)) ⊎ HasParent p child (e ∷ es)
  by_place (inl (inl here, above)) = inr (inl (here, above))
  by_place (inl (inr (lt, h), above)) = inl (h, (lt, above))
  by_place (inr there) = inr (inr there)

no_parent_is_root : (child : Identifier) (es : List Entry) → HasParent Root child es → ⊥
no_parent_is_root child [] h = h
no_parent_is_root child (e ∷ es) (inl h) = let n = h.0 in absurd cc
no_parent_is_root child (e ∷ es) (inr h) = no_parent_is_root child es h

behind_at : (back : Ids) (l r : List Element) (x : Element) → AreBehind back (each entry_of (l ++ x ∷ r)) → IsBehind x.parent x.id (onto (each entry_of l) back)
behind_at back [] r x h = h.0
behind_at back (e ∷ l) r x h = behind_at (e.id ∷ back) l r x h.1

-- ---- the place of a smaller sibling

pub less_of : (o : Ordering) → is_lt o ≡ true → o ≡ Less
less_of Less h = refl
less_of Equal h = absurd cc
less_of Greater h = absurd cc

pass_all : (id : Identifier) (l r : List Element) (x : Element) → AreAbove id (each entry_of l) → is_lt (id_cmp id x.id) ≡ true
    → prefix_len (λ e. is_lt (id_cmp id e.id)) (l ++ x ∷ r) ≡ length l + 1 + prefix_len (λ e. is_lt (id_cmp id e.id)) r
pass_all id [] r x above lt = ap (λ b. cond b (1 + prefix_len (λ e. is_lt (id_cmp id e.id)) r) 0) lt
pass_all id (e ∷ l) r x above lt =
    let rest = pass_all id l r x above.1 lt in
    ap (λ o. cond (is_lt o) (1 + prefix_len (λ e. is_lt (id_cmp id e.id)) (l ++ x ∷ r)) 0) above.0 ∙ omega (arith, rest)

parent_among : (a child : Identifier) (l r : List Element) → HasParent (After a) child (each entry_of l) → list_any (same_id a) (ids_of (l ++ r)) ≡ true
parent_among a child [] r h = absurd h
parent_among a child (e ∷ l) r (inl h) = ap (λ b. b || list_any (same_id a) (ids_of (l ++ r))) h.0
parent_among a child (e ∷ l) r (inr h) = or_right (same_id a e.id) (list_any (same_id a) (ids_of (l ++ r))) (parent_among a child l r h)

place_after : (a id : Identifier) (l r : List Element) (x : Element) → is_distinct (ids_of (l ++ x ∷ r)) ≡ true → id_cmp id x.id ≡ Less
    → HasParent (After a) x.id (each entry_of l) → place_of (After a) id (l ++ x ∷ r) ≡ length l + 1 + prefix_len (λ e. is_lt (id_cmp id e.id)) r
place_after a id [] r x distinct lt h = absurd h
place_after a id (e ∷ l) r x distinct lt (inl h) =
    let rest = pass_all id l r x (AreAbove-up id x.id (each entry_of l) lt h.1) (ap is_lt lt) in
    let row = e ∷ l ++ x ∷ r in
    ap (λ b. let start = cond (not b) (1 + prefix_len (λ y. not (same_id a y.id)) (l ++ x ∷ r)) 0 + 1 in start + prefix_len (λ y. is_lt (id_cmp id y.id)) (drop start row)) h.0 ∙ omega (arith, rest)
place_after a id (e ∷ l) r x distinct lt (inr h) =
    let ids = ids_of (l ++ x ∷ r) in
    let parts = and_parts (not (list_any (same_id e.id) ids)) (is_distinct ids) distinct in
    let rest = place_after a id l r x parts.1 lt h in
    let other : same_id a e.id ≡ false = by_test (same_id a e.id) refl parts.0 in
    let row = e ∷ l ++ x ∷ r in
    let k = prefix_len (λ y. not (same_id a y.id)) (l ++ x ∷ r) in
    let one_more : 1 + k + 1 ≡ suc (k + 1) = omega arith in
    ap (λ b. let start = cond (not b) (1 + k) 0 + 1 in start + prefix_len (λ y. is_lt (id_cmp id y.id)) (drop start row)) other ∙ rw one_more (omega (arith, rest)) where
      by_test : (b : Bool) → same_id a e.id ≡ b → not (list_any (same_id e.id) (ids_of (l ++ x ∷ r))) ≡ true → same_id a e.id ≡ false
      by_test true here none = let again : list_any (same_id e.id) (ids_of (l ++ x ∷ r)) ≡ true = subst (λ i. list_any (same_id i) (ids_of (l ++ x ∷ r)) ≡ true) (same_id-is a e.id here) (parent_among a x.id l (x ∷ r) h) in absurd cc
      by_test false apart none = apart

place_behind : (p : Place) (id : Identifier) (l r : List Element) (x : Element) → is_distinct (ids_of (l ++ x ∷ r)) ≡ true → id_cmp id x.id ≡ Less
    → IsBehind p x.id (onto (each entry_of l) []) → place_of p id (l ++ x ∷ r) ≡ length l + 1 + prefix_len (λ e. is_lt (id_cmp id e.id)) r
place_behind p id l r x distinct lt h = by_place p (forwards p x.id (each entry_of l) [] h) where
  by_place : (p : Place) → (Ends p × AreAbove x.id (each entry_of l)) ⊎ HasParent p x.id (each entry_of l) → place_of p id (l ++ x ∷ r) ≡ length l + 1 + prefix_len (λ e. is_lt (id_cmp id e.id)) r
  by_place Root (inl h) = zero-add (prefix_len (λ e. is_lt (id_cmp id e.id)) (l ++ x ∷ r)) ∙ pass_all id l r x (AreAbove-up id x.id (each entry_of l) lt h.1) (ap is_lt lt)
  by_place Root (inr h) = absurd (no_parent_is_root x.id (each entry_of l) h)
  by_place (After a) (inl h) = absurd h.0
  by_place (After a) (inr h) = place_after a id l r x distinct lt h

-- right behind a greater sibling, and behind all greater ones that follow there
pub place_behind_sibling : (row : List Element) → KeepsWalk row → (k : ℕ) (sibling : Element) (id : Identifier) → k < length row → sibling ≡ get_or row k sibling → is_lt (id_cmp id sibling.id) ≡ true
    → place_of sibling.parent id row ≡ k + 1 + prefix_len (λ e. is_lt (id_cmp id e.id)) (drop (k + 1) row)
place_behind_sibling row keeps k sibling id within is lt =
    let l = take k row in
    let r = drop (k + 1) row in
    let split : row ≡ l ++ sibling ∷ r = sym (take-append-drop k row) ∙ ap (λ t. l ++ t) (drop-cons row k sibling within ∙ (λ i. sym is i ∷ drop (sym (add-one k) i) row)) in
    let behind = behind_at [] l r sibling (subst (λ t. AreBehind [] (each entry_of t)) split (AreBehind-row row keeps)) in
    let placed = place_behind sibling.parent id l r sibling (ap (λ t. is_distinct (ids_of t)) (sym split) ∙ keeps.distinct) (less_of (id_cmp id sibling.id) lt) behind in
    ap (place_of sibling.parent id) split ∙ placed ∙ ap (λ n. n + 1 + prefix_len (λ e. is_lt (id_cmp id e.id)) r) (length-take-le k row (omega arith))
