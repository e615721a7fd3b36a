-- Placing an element in a row.
use Rattle.std.proofs.Common.{◌≡◌, ℕ, ◌≤◌, ◌+◌, Bool, true, false, cond, not, ◌&&◌, ◌||◌, List, [], ◌∷◌, ◌++◌, length, take, drop, Some, refl, sym, ap, subst, ◌∙◌, arith}
use Rattle.std.specs.Prelude.{map as each, insert, is_some}
use Rattle.std.specs.List.{list_any, prefix_len}
use Rattle.std.specs.FinMap as map
use Rattle.std.specs.FinSet as set
use Rattle.std.specs.FinMap.Entries.{find}
use Rattle.std.proofs.lemmas.List.{take-append-drop, take-map, map-append, drop-map}
use Rattle.bg_types.specs.Identifier.{Identifier, id_cmp, same_id}
use Rattle.bg_types.specs.WellFormed.{IsWellFormed}
use Rattle.bg_types.specs.OperationSet.{Node, OperationSet, AllWellFormed, no_operations}
use Rattle.bg_types.specs.declared.op.Place.{Place}
use Rattle.bg_types.specs.declared.op.Place.TheVariants.{Root, After}
use Rattle.bg_types.specs.declared.op.OpView.TheVariants.{Insert}
use Rattle.bg_types.proofs.Interface.{id_cmp-total, Holds-no_operations}
use Rattle.rga_tree.specs.declared.element.Element.{Element}
use Rattle.rga_tree.specs.Walk.{walk_to, walk}
use Rattle.rga_tree.specs.Tree.{stands_in, IsTree, OnlyErasesPlaced}
use Rattle.rga_tree.specs.Elements.{element_of, elements, with_element}
use Rattle.rga_tree.specs.Row.{entry_of, hidden_ids, operations_of, ids_of, is_distinct, start_of, place_of}
use Rattle.rga_tree.specs.KeepsWalk.{KeepsWalk}
use Rattle.rga_tree.proofs.WalkAmong.{Entry}
use Rattle.rga_tree.proofs.Entries.{IsAbsent, IsAbsent-entries, childless, no_parent}
use Rattle.rga_tree.proofs.SetSteps.{node_of, grown, with_element-grown, AllWellFormed-element, IsTree-grown, OnlyErasesPlaced-grown, walk-new, same_id-swap, mark_kept, mark_new}
use Rattle.rga_tree.proofs.RowPlaces.{AreDistinct, distinct_of, among-insert}
use Rattle.rga_tree.proofs.RowSets.{get_row, absent_row, absent_parts, ops-insert, no_hidden}

seen_kept : (s : OperationSet) (n : Element) (es : List Entry) → IsAbsent n.id es → each (element_of (grown s n)) es ≡ each (element_of s) es
seen_kept s n [] h = refl
seen_kept s n (e ∷ es) h =
    let m = mark_kept s n e.0 h.0 in
    λ i. record { id = e.0; parent = e.1.parent; ch = e.1.ch; hidden = m i } ∷ seen_kept s n es h.1 i

each-insert : {X Y : Type 0} (f : X → Y) (xs : List X) (i : ℕ) (x : X) → each f (insert xs i x) ≡ insert (each f xs) i (f x)
each-insert f xs i x = map-append f (take i xs) (x ∷ drop i xs) ∙ (λ j. sym (take-map f i xs) j ++ f x ∷ sym (drop-map f i xs) j)

-- the walk's entries, as a row shows them
absent_seen_row : (id : Identifier) (s : OperationSet) (es : List Entry) → IsAbsent id (each entry_of (each (element_of s) es)) → IsAbsent id es
absent_seen_row id s [] h = tt
absent_seen_row id s (e ∷ es) h = (h.0, absent_seen_row id s es h.1)

-- the row with one more element is in the order of the walk
pub in_order-insert : (row : List Element) (n : Element) → row ≡ elements (operations_of row) → is_distinct (ids_of row) ≡ true → IsTree (operations_of row) → AllWellFormed (operations_of row)
    → IsWellFormed (Insert n.id n.parent n.ch) → map.contains_key (operations_of row).ins n.id ≡ false → start_of n.parent row ≤ length row
    → insert row (place_of n.parent n.id row) n ≡ elements (grown (operations_of row) n)
in_order-insert row n in_order distinct tree well is new within =
    let s = operations_of row in
    let w = walk s Root in
    let i = place_of n.parent n.id row in
    let entry : Entry = (n.id, node_of n) in
    let absent = absent_row row n.id new in
    let absent_w : IsAbsent n.id w = absent_seen_row n.id s w (subst (λ r. IsAbsent n.id (each entry_of r)) in_order absent) in
    let distinct_w : AreDistinct w = distinct_of s w (ap (λ r. is_distinct (ids_of r)) (sym in_order) ∙ distinct) in
    let within_w : start_of n.parent (each (element_of s) w) ≤ length (each (element_of s) w) = subst (λ r. start_of n.parent r ≤ length r) in_order within in
    let walked : walk (grown s n) Root ≡ insert w i entry =
    walk-new s n.id (node_of n) well is (IsAbsent-entries s n.id new) (childless s n.id (no_parent s n.id tree new)) ∙ among-insert s entry w distinct_w within_w ∙ ap (λ r. insert w (place_of n.parent n.id r) entry) (sym in_order) in
    let fresh : set.contains s.del n.id ≡ false = set.contains-from_list id_cmp-total (hidden_ids row) n.id ∙ no_hidden n.id row absent in
    let shown : element_of (grown s n) entry ≡ n = λ j. record { id = n.id; parent = n.parent; ch = n.ch; hidden = mark_new s n fresh j } in
    sym (ap (each (element_of (grown s n))) walked ∙ each-insert (element_of (grown s n)) w i entry
    ∙ (λ j. insert (seen_kept s n w absent_w j) i (shown j)) ∙ ap (λ r. insert r i n) (sym in_order))

-- distinct

absent_ids : (id : Identifier) (row : List Element) → IsAbsent id (each entry_of row) → list_any (same_id id) (ids_of row) ≡ false
absent_ids id [] h = refl
absent_ids id (e ∷ row) h = ap (λ b. b || list_any (same_id id) (ids_of row)) h.0 ∙ absent_ids id row h.1

any_with : (p : Identifier → Bool) (l r : List Element) (n : Element) → p n.id ≡ false → list_any p (ids_of (l ++ n ∷ r)) ≡ list_any p (ids_of (l ++ r))
any_with p [] r n h = ap (λ b. b || list_any p (ids_of r)) h
any_with p (x ∷ l) r n h = ap (λ b. p x.id || b) (any_with p l r n h)

distinct_with : (l r : List Element) (n : Element) → IsAbsent n.id (each entry_of l) → IsAbsent n.id (each entry_of r) → is_distinct (ids_of (l ++ n ∷ r)) ≡ is_distinct (ids_of (l ++ r))
distinct_with [] r n p q = ap (λ b. not b && is_distinct (ids_of r)) (absent_ids n.id r q)
distinct_with (x ∷ l) r n p q = λ i. not (any_with (same_id x.id) l r n (same_id-swap x.id n.id ∙ p.0) i) && distinct_with l r n p.1 q i

pub distinct-insert : (row : List Element) (i : ℕ) (n : Element) → is_distinct (ids_of row) ≡ true → map.contains_key (operations_of row).ins n.id ≡ false → is_distinct (ids_of (insert row i n)) ≡ true
distinct-insert row i n distinct new =
    let p = absent_parts row i n.id (absent_row row n.id new) in
    distinct_with (take i row) (drop i row) n p.0 p.1 ∙ ap (λ r. is_distinct (ids_of r)) (take-append-drop i row) ∙ distinct

-- ---- the whole step

pub KeepsWalk-nothing : (row : List Element) → row ≡ [] → KeepsWalk row
KeepsWalk-nothing row e = subst KeepsWalk (sym e) (record {
  in_order = sym (ap (λ d. each (element_of no_operations) (walk_to d map.empty Root)) (map.len-empty id_cmp Node));
  distinct = refl;
  tree = λ id node found. let none = map.get-empty {X = Node} id_cmp id in absurd cc;
  only_placed = λ id held. let none = set.contains-empty id_cmp id in absurd cc;
  well_formed = λ op held. absurd (Holds-no_operations op held);
})

pub placing : (row new : List Element) (n : Element) (at : ℕ) → KeepsWalk row → stands_in (operations_of row) n.parent ≡ true → IsWellFormed (Insert n.id n.parent n.ch)
    → map.contains_key (operations_of row).ins n.id ≡ false → start_of n.parent row ≤ length row
    → at ≡ place_of n.parent n.id row → new ≡ insert row at n → KeepsWalk new × (operations_of new ≡ with_element (operations_of row) n)
placing row new n at keeps stands is fresh within at_is new_is =
    let s = operations_of row in
    let i = place_of n.parent n.id row in
    let e : new ≡ insert row i n = new_is ∙ ap (λ k. insert row k n) at_is in
    let ops : operations_of new ≡ grown s n = ap operations_of e ∙ ops-insert row i n (absent_row row n.id fresh) in
    let whole : operations_of new ≡ with_element s n = ops ∙ sym (with_element-grown s n) in (
      record {
        in_order = e ∙ in_order-insert row n keeps.in_order keeps.distinct keeps.tree keeps.well_formed is fresh within ∙ ap elements (sym ops);
        distinct = ap (λ r. is_distinct (ids_of r)) e ∙ distinct-insert row i n keeps.distinct fresh;
        tree = subst IsTree (sym ops) (IsTree-grown s n keeps.tree stands);
        only_placed = subst OnlyErasesPlaced (sym ops) (OnlyErasesPlaced-grown s n keeps.only_placed);
        well_formed = subst AllWellFormed (sym whole) (AllWellFormed-element s n keeps.well_formed is);
      },
      whole,
    )

found_before : (a : Identifier) (row : List Element) → is_some (find id_cmp a (each entry_of row)) ≡ true → prefix_len (λ e. not (same_id a e.id)) row + 1 ≤ length row
found_before a [] h = absurd cc
found_before a (e ∷ row) h =
    elim (same_id a e.id) as (λ b. is_some (cond b (Some (entry_of e).1) (find id_cmp a (each entry_of row))) ≡ true → cond (not b) (1 + prefix_len (λ x. not (same_id a x.id)) row) 0 + 1 ≤ length (e ∷ row)) [
      | true ↦ λ _. omega arith
      | false ↦ λ h. let more = found_before a row h in omega arith
    ] h

pub present_before : (a : Identifier) (row : List Element) → map.contains_key (operations_of row).ins a ≡ true → prefix_len (λ e. not (same_id a e.id)) row + 1 ≤ length row
present_before a row h = found_before a row (ap is_some (sym (get_row row a)) ∙ h)

pub start_within : (row : List Element) (p : Place) → stands_in (operations_of row) p ≡ true → start_of p row ≤ length row
start_within row Root h = omega arith
start_within row (After a) h = present_before a row h
