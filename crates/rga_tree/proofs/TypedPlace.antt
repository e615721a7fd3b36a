-- Where an insertion goes whose counter is above all that the set names.
use Rattle.std.proofs.Common.{◌≡◌, ℕ, ◌≤◌, ◌<◌, false, cond, List, [], ◌∷◌, ◌++◌, Some, refl, sym, ap, subst, ◌∙◌, append_assoc, arith}
use Rattle.std.specs.Prelude.{All, map as each}
use Rattle.std.specs.List.{AllByRecursion}
use Rattle.std.proofs.lemmas.List.{map-append}
use Rattle.std.proofs.lemmas.List.Elements.{All-head, All-tail}
use Rattle.std.specs.declared.cmp.Ordering.TheVariants.{Less, Greater}
use Rattle.std.specs.Ordering.{is_lt, is_eq, nat_cmp, ordering_then, ordering_reverse}
use Rattle.std.specs.Cmp.{nat_cmp_is}
use Rattle.std.specs.FinMap as map
use Rattle.bg_types.specs.Identifier.{Identifier, id_cmp, same_id}
use Rattle.bg_types.specs.WellFormed.{IsWellFormed}
use Rattle.bg_types.specs.OperationSet.{Node, OperationSet, AllWellFormed, with_operation, next, parent_counters}
use Rattle.bg_types.specs.declared.op.Place.{Place}
use Rattle.bg_types.specs.declared.op.Place.TheVariants.{Root, After}
use Rattle.bg_types.specs.declared.op.OpView.TheVariants.{Insert}
use Rattle.bg_types.proofs.Interface.{id_cmp-total, same_id-itself, next-above}
use Rattle.rga_tree.specs.Walk.{same_place, walk, walked_ids}
use Rattle.rga_tree.specs.Order.{Precedes, StandsBetween}
use Rattle.rga_tree.proofs.WalkAmong.{Entry, IsChildless, skip, below, among}
use Rattle.rga_tree.proofs.Entries.{IsAbsent, entries_of, all_entries}
use Rattle.rga_tree.proofs.SetSteps.{same_id-swap, walk-new}
use Rattle.rga_tree.proofs.RowPlaces.{AreDistinct, below_absent}
use Rattle.rga_tree.proofs.AttachedWalk.{all_held, all_weaker_by}
use Rattle.rga_tree.proofs.WalkDistinct.{AreDistinct-walked}
use Rattle.rga_tree.proofs.TreeAttached.{all_last}
use Rattle.rga_tree.proofs.Lines.{Ids, head_is, tail_is}

-- ---- lists

absent_there : (a : Identifier) (front back : List Entry) (x : Entry) → IsAbsent a (front ++ x ∷ back) → same_id a x.0 ≡ false
absent_there a [] back x h = h.0
absent_there a (y ∷ front) back x h = absent_there a front back x h.1

-- what is put after one that occurs once
below_at : (n x : Entry) (front back : List Entry) → AreDistinct (front ++ x ∷ back) → below (After x.0) n (front ++ x ∷ back) ≡ front ++ x ∷ skip n back
below_at n x [] back distinct =
    ap (λ b. cond b (x ∷ skip n (below (After x.0) n back)) (x ∷ below (After x.0) n back)) (same_id-itself x.0) ∙ ap (λ r. x ∷ skip n r) (below_absent x.0 n back distinct.0)
below_at n x (y ∷ front) back distinct =
    let rest = below (After x.0) n (front ++ x ∷ back) in
    ap (λ b. cond b (y ∷ skip n rest) (y ∷ rest)) (same_id-swap x.0 y.0 ∙ absent_there y.0 front back x distinct.0) ∙ ap (λ r. y ∷ r) (below_at n x front back distinct.1)

-- none of them is greater than the new one
abbrev AreLower : Identifier → List Entry → Type 0
AreLower k es = AllByRecursion (λ e. is_lt (id_cmp k e.0) ≡ false) es

skip_none : (n : Entry) (es : List Entry) → AreLower n.0 es → skip n es ≡ n ∷ es
skip_none n [] h = refl
skip_none n (x ∷ es) h = ap (λ b. cond b (x ∷ skip n es) (n ∷ x ∷ es)) h.0

-- entries whose identifiers are split
entries_split : (es : List Entry) (f r : Ids) (a : Identifier) → each (λ e. e.0) es ≡ f ++ a ∷ r
    → (front : List Entry) × (x : Entry) × (back : List Entry) × (es ≡ front ++ x ∷ back) × (x.0 ≡ a) × (each (λ e. e.0) front ≡ f) × (each (λ e. e.0) back ≡ r)
entries_split [] [] r a h = absurd cc
entries_split [] (y ∷ f) r a h = absurd cc
entries_split (e ∷ es) [] r a h = ([], e, es, refl, head_is e.0 a (each (λ x. x.0) es) r h, refl, tail_is e.0 a (each (λ x. x.0) es) r h)
entries_split (e ∷ es) (y ∷ f) r a h =
    let here = head_is e.0 y (each (λ x. x.0) es) (f ++ a ∷ r) h in
    let rest = entries_split es f r a (tail_is e.0 y (each (λ x. x.0) es) (f ++ a ∷ r) h) in
    (e ∷ rest.0, rest.1, rest.2, ap (λ t. e ∷ t) rest.3, rest.4, (λ i. here i ∷ rest.5 i), rest.6)

-- ---- the new identifier

above : (a b : Identifier) → a.counter < b.counter → id_cmp b a ≡ Greater
above a b h = id_cmp-total.antisymm b a ∙ ap ordering_reverse (ap (λ o. ordering_then o (nat_cmp a.site b.site)) (sym (nat_cmp_is a.counter b.counter Less h)))

not_parent : (p : Place) (k : Identifier) (n : ℕ) → n ≤ k.counter → All (λ c. c < n) (parent_counters p) → same_place p (After k) ≡ false
not_parent Root k n le h = refl
not_parent (After a) k n le h = let lt = All-head (λ c. c < n) a.counter [] h in same_id-swap a k ∙ ap is_eq (above a k (omega arith))

module _ (s : OperationSet) (well : AllWellFormed s) (id : Identifier) (node : Node) (formed : IsWellFormed (Insert id node.parent node.ch)) (newest : next s ≤ id.counter) where
  abbrev t : OperationSet
  t = with_operation s (Insert id node.parent node.ch)

  abbrev n : Entry
  n = (id, node)

  named : (e : Entry) → map.get s.ins e.0 ≡ Some e.1 → All (λ c. c < next s) (e.0.counter ∷ parent_counters e.1.parent)
  named e held = next-above s (Insert e.0 e.1.parent e.1.ch) held

  greater : (e : Entry) → map.get s.ins e.0 ≡ Some e.1 → id_cmp id e.0 ≡ Greater
  greater e held = let lt = All-head (λ c. c < next s) e.0.counter (parent_counters e.1.parent) (named e held) in above e.0 id (omega arith)

  childless : IsChildless id (entries_of s)
  childless = all_entries s (λ e. same_place e.1.parent (After id) ≡ false)
      (λ e held. not_parent e.1.parent id (next s) newest (All-tail (λ c. c < next s) e.0.counter (parent_counters e.1.parent) (named e held)))

  walk-among_new : walk t Root ≡ among n Root (walk s Root)
  walk-among_new =
      walk-new s id node well formed (all_entries s (λ e. same_id id e.0 ≡ false) (λ e held. ap is_eq (greater e held))) childless

  lower : AreLower id (walk s Root)
  lower = all_weaker_by (λ e. map.get s.ins e.0 ≡ Some e.1) (λ e. is_lt (id_cmp id e.0) ≡ false) (walk s Root) (λ e held. ap is_lt (greater e held)) (all_held s (map.len s.ins) Root)

  pub walk-typed_first : node.parent ≡ Root → walk t Root ≡ n ∷ walk s Root
  walk-typed_first at =
      walk-among_new ∙ ap (λ p. cond (same_place p Root) (skip n (walk s Root)) (below p n (walk s Root))) at ∙ skip_none n (walk s Root) lower

  pub walk-typed_behind : (front back : List Entry) (parent : Entry) → node.parent ≡ After parent.0 → walk s Root ≡ front ++ parent ∷ back → walk t Root ≡ front ++ parent ∷ n ∷ back
  walk-typed_behind front back parent at split =
      walk-among_new ∙ ap (λ p. cond (same_place p Root) (skip n (walk s Root)) (below p n (walk s Root))) at ∙ ap (below (After parent.0) n) split
      ∙ below_at n parent front back (subst AreDistinct split (AreDistinct-walked s well))
      ∙ ap (λ r. front ++ parent ∷ r) (skip_none n back (all_last (λ e. is_lt (id_cmp id e.0) ≡ false) front (parent ∷ back) (subst (AreLower id) split lower)).1)

  pub StandsBetween-typed : (a b : Identifier) → node.parent ≡ After a → Precedes s a b → StandsBetween t a id b
  StandsBetween-typed a b at h =
      let f = h.front in
      let r = h.between ++ b ∷ h.back in
      let e = entries_split (walk s Root) f r a (h.in_order ∙ append_assoc f (a ∷ h.between) (b ∷ h.back)) in
      let new = walk-typed_behind e.0 e.2 e.1 (at ∙ ap After (sym e.4)) e.3 in
      let ids : walked_ids t ≡ (f ++ a ∷ []) ++ id ∷ r =
      ap (each (λ (x : Entry). x.0)) new ∙ map-append (λ (x : Entry). x.0) e.0 (e.1 ∷ n ∷ e.2) ∙ (λ i. e.5 i ++ e.4 i ∷ id ∷ e.6 i) ∙ sym (append_assoc f (a ∷ []) (id ∷ r)) in (
        record { front = f; between = []; back = r; in_order = ids },
        record { front = f ++ a ∷ []; between = h.between; back = h.back; in_order = ids ∙ sym (append_assoc (f ++ a ∷ []) (id ∷ h.between) (b ∷ h.back)) },
      )
