-- Hiding an element of a row.
use Rattle.std.proofs.Common.{◌≡◌, ℕ, get_or, suc, ◌≤◌, ◌+◌, Bool, true, false, cond, not, ◌&&◌, ◌||◌, List, [], ◌∷◌, length, Option, Some, None, refl, sym, ap, subst, ◌∙◌, arith}
use Rattle.std.specs.Prelude.{map as each, filter, is_some}
use Rattle.std.specs.List.{list_any, prefix_len}
use Rattle.std.specs.Ordering.{eq_by_cmp}
use Rattle.std.proofs.Math.ListN.{set}
use Rattle.std.specs.FinMap as map
use Rattle.std.specs.FinSet as sets
use Rattle.bg_types.specs.Identifier.{Identifier, IsIdentifier, id_cmp, same_id}
use Rattle.bg_types.specs.OperationSet.{Node, OperationSet, AllWellFormed, with_operation}
use Rattle.bg_types.specs.declared.op.Place.TheVariants.{Root}
use Rattle.bg_types.specs.declared.op.OpView.TheVariants.{Insert, Erase}
use Rattle.bg_types.proofs.Interface.{or_swap, id_cmp-total, id_cmp-exact, same_id-is}
use Rattle.rga_tree.specs.declared.element.Element.{Element}
use Rattle.rga_tree.specs.Walk.{walk}
use Rattle.rga_tree.specs.TextOf.{is_erased}
use Rattle.rga_tree.specs.Tree.{IsTree, OnlyErasesPlaced}
use Rattle.rga_tree.specs.Elements.{element_of, elements}
use Rattle.rga_tree.specs.Row.{entry_of, hidden_ids, operations_of, ids_of, is_distinct}
use Rattle.rga_tree.specs.KeepsWalk.{KeepsWalk}
use Rattle.rga_tree.proofs.WalkAmong.{Entry}
use Rattle.rga_tree.proofs.Entries.{IsAbsent}
use Rattle.rga_tree.proofs.SetSteps.{AllWellFormed-with, OnlyErasesPlaced-erase, same_id-swap}
use Rattle.rga_tree.proofs.RowSets.{has_row}
use Rattle.rga_tree.proofs.Placing.{present_before}
use Rattle.std.proofs.lemmas.Bool.{and_parts}

-- the element hidden, if it has the identifier
abbrev pub marked : Identifier → Element → Element
marked id e = record e { hidden = same_id id e.id || e.hidden }

other_marked : (id : Identifier) (e : Element) → same_id id e.id ≡ false → marked id e ≡ e
other_marked id e other = λ i. record e { hidden = other i || e.hidden }

absent_marked : (id : Identifier) (row : List Element) → IsAbsent id (each entry_of row) → each (marked id) row ≡ row
absent_marked id [] h = refl
absent_marked id (e ∷ row) h = λ i. other_marked id e h.0 i ∷ absent_marked id row h.1 i

absent_entries : (id : Identifier) (row : List Element) → not (list_any (same_id id) (ids_of row)) ≡ true → IsAbsent id (each entry_of row)
absent_entries id [] h = tt
absent_entries id (e ∷ row) h =
    elim (same_id id e.id) as (λ b. not (b || list_any (same_id id) (ids_of row)) ≡ true → (b ≡ false) × IsAbsent id (each entry_of row)) [
      | true ↦ λ h. absurd cc
      | false ↦ λ h. (refl, absent_entries id row h)
    ] h

-- the write at the place of the identifier
set_marked : (id : Identifier) (row : List Element) (e : Element) → is_distinct (ids_of row) ≡ true
    → (let at = prefix_len (λ x. not (same_id id x.id)) row in (at + 1 ≤ length row) → e ≡ get_or row at e → set row at (record e { hidden = true }) ≡ each (marked id) row)
set_marked id [] e distinct = λ short is. absurd (omega arith)
set_marked id (x ∷ row) e distinct =
    let d = and_parts (not (list_any (same_id x.id) (ids_of row))) (is_distinct (ids_of row)) distinct in
    let k = prefix_len (λ y. not (same_id id y.id)) row in
    elim (same_id id x.id) as (λ b. same_id id x.id ≡ b → cond (not b) (1 + k) 0 + 1 ≤ length (x ∷ row) → e ≡ get_or (x ∷ row) (cond (not b) (1 + k) 0) e
    → set (x ∷ row) (cond (not b) (1 + k) 0) (record e { hidden = true }) ≡ record x { hidden = b || x.hidden } ∷ each (marked id) row) [
      | true ↦ λ here _ is.
          let gone = absent_marked id row (subst (λ j. IsAbsent j (each entry_of row)) (sym (same_id-is id x.id here)) (absent_entries x.id row d.0)) in
          λ i. record (is i) { hidden = true } ∷ sym gone i
      | false ↦ λ _ long is.
          let more : 1 + k ≡ suc k = omega arith in
          let at : e ≡ get_or row k e = rw more at is in
          rw more (ap (λ r. x ∷ r) (set_marked id row e d.1 (omega arith) at))
    ] refl

both_hidden : (b a l h : Bool) → (b || ((a && b) || l)) ≡ (b || cond h (b || l) l)
both_hidden true a l h = refl
both_hidden false true l true = refl
both_hidden false true l false = refl
both_hidden false false l true = refl
both_hidden false false l false = refl

other_hidden : (q a b l h : Bool) → cond h (q || ((a && b) || l)) ((a && b) || l) ≡ ((a && b) || cond h (q || l) l)
other_hidden q a b l true = or_swap q (a && b) l
other_hidden q a b l false = refl

shown_any : (p : Identifier → Bool) (h : Bool) (e : Element) (row : List Element) → list_any p (each (λ x. x.id) (cond h (e ∷ row) row)) ≡ cond h (p e.id || list_any p (each (λ x. x.id) row)) (list_any p (each (λ x. x.id) row))
shown_any p true e row = refl
shown_any p false e row = refl

hidden_marked : (p : Identifier → Bool) (id : Identifier) (row : List Element)
    → list_any p (hidden_ids (each (marked id) row)) ≡ ((list_any (same_id id) (ids_of row) && p id) || list_any p (hidden_ids row))
hidden_marked p id [] = refl
hidden_marked p id (x ∷ row) =
    let a = list_any (same_id id) (ids_of row) in
    let l = list_any p (hidden_ids row) in
    let rest = hidden_marked p id row in
    shown_any p (same_id id x.id || x.hidden) (marked id x) (filter (λ e. e.hidden) (each (marked id) row))
    ∙ ap (λ t. cond (same_id id x.id || x.hidden) (p x.id || t) t) rest
    ∙ elim (same_id id x.id) as (λ s. same_id id x.id ≡ s → cond (s || x.hidden) (p x.id || ((a && p id) || l)) ((a && p id) || l) ≡ (((s || a) && p id) || cond x.hidden (p x.id || l) l)) [
      | true ↦ λ here. let e : p x.id ≡ p id = ap p (sym (same_id-is id x.id here)) in
          rw e (both_hidden (p id) a l x.hidden)
      | false ↦ λ _. other_hidden (p x.id) a (p id) l x.hidden
    ] refl
    ∙ ap (λ t. (((same_id id x.id || a) && p id) || t)) (sym (shown_any p x.hidden x (filter (λ e. e.hidden) row)))

same_entries : (id : Identifier) (row : List Element) → each entry_of (each (marked id) row) ≡ each entry_of row
same_entries id [] = refl
same_entries id (e ∷ row) = ap (λ es. entry_of e ∷ es) (same_entries id row)

same_ids : (id : Identifier) (row : List Element) → ids_of (each (marked id) row) ≡ ids_of row
same_ids id [] = refl
same_ids id (e ∷ row) = ap (λ es. e.id ∷ es) (same_ids id row)

any_ids : (id : Identifier) (row : List Element) → list_any (λ e. same_id id e.id) row ≡ list_any (same_id id) (ids_of row)
any_ids id [] = refl
any_ids id (e ∷ row) = ap (λ b. same_id id e.id || b) (any_ids id row)

ops-marked : (id : Identifier) (row : List Element) → map.contains_key (operations_of row).ins id ≡ true → operations_of (each (marked id) row) ≡ with_operation (operations_of row) (Erase id)
ops-marked id row stands =
    let here : list_any (same_id id) (ids_of row) ≡ true = sym (any_ids id row) ∙ sym (has_row row id) ∙ stands in
    let d : sets.from_list {R = id_cmp} (hidden_ids (each (marked id) row)) ≡ sets.insert (sets.from_list (hidden_ids row)) id = sets.same_set id_cmp-total id_cmp-exact _ _ (λ q.
    sets.contains-from_list id_cmp-total (hidden_ids (each (marked id) row)) q
    ∙ hidden_marked (eq_by_cmp id_cmp q) id row
    ∙ ap (λ b. (b && eq_by_cmp id_cmp q id) || list_any (eq_by_cmp id_cmp q) (hidden_ids row)) here
    ∙ ap (λ b. eq_by_cmp id_cmp q id || b) (sym (sets.contains-from_list id_cmp-total (hidden_ids row) q))
    ∙ sym (sets.contains-insert id_cmp-total (sets.from_list (hidden_ids row)) id q)) in
    λ i. record { ins = map.from_entries (same_entries id row i); del = d i }

elements-erased : (s : OperationSet) (id : Identifier) → each (marked id) (elements s) ≡ elements (with_operation s (Erase id))
elements-erased s id = by_walk (walk s Root) where
  by_walk : (es : List Entry) → each (marked id) (each (element_of s) es) ≡ each (element_of (with_operation s (Erase id))) es
  by_walk [] = refl
  by_walk (e ∷ es) =
      let mark : (same_id id e.0 || is_erased s e.0) ≡ is_erased (with_operation s (Erase id)) e.0 = ap (λ b. b || is_erased s e.0) (same_id-swap id e.0) ∙ sym (sets.contains-insert id_cmp-total s.del id e.0) in
      λ i. record { id = e.0; parent = e.1.parent; ch = e.1.ch; hidden = mark i } ∷ by_walk es i

-- what is placed has an identifier
identifier_of : (s : OperationSet) (id : Identifier) → AllWellFormed s → map.contains_key s.ins id ≡ true → IsIdentifier id
identifier_of s id well stands = by_look (map.get s.ins id) refl stands where
  by_look : (o : Option Node) → map.get s.ins id ≡ o → is_some o ≡ true → IsIdentifier id
  by_look None is h = absurd cc
  by_look (Some node) is h = (well (Insert id node.parent node.ch) is).0

pub hiding : (row : List Element) (id : Identifier) (at : ℕ) (e : Element) → KeepsWalk row → map.contains_key (operations_of row).ins id ≡ true → at ≡ prefix_len (λ x. not (same_id id x.id)) row → e ≡ get_or row at e
    → KeepsWalk (set row at (record e { hidden = true })) × (operations_of (set row at (record e { hidden = true })) ≡ with_operation (operations_of row) (Erase id))
hiding row id at e keeps stands at_is e_is =
    let k = prefix_len (λ x. not (same_id id x.id)) row in
    let new_is : set row at (record e { hidden = true }) ≡ each (marked id) row =
    ap (λ n. set row n (record e { hidden = true })) at_is ∙ set_marked id row e keeps.distinct (present_before id row stands) (e_is ∙ ap (λ n. get_or row n e) at_is) in
    let ops = ops-marked id row stands in
    let kept : KeepsWalk (each (marked id) row) = record {
      in_order = ap (each (marked id)) keeps.in_order ∙ elements-erased (operations_of row) id ∙ ap elements (sym ops);
      distinct = ap is_distinct (same_ids id row) ∙ keeps.distinct;
      tree = subst IsTree (sym ops) (λ q node found. keeps.tree q node found);
      only_placed = subst OnlyErasesPlaced (sym ops) (OnlyErasesPlaced-erase (operations_of row) id keeps.only_placed stands);
      well_formed = subst AllWellFormed (sym ops) (AllWellFormed-with (operations_of row) (Erase id) keeps.well_formed (identifier_of (operations_of row) id keeps.well_formed stands));
    } in
    (subst KeepsWalk (sym new_is) kept, ap operations_of new_is ∙ ops)
