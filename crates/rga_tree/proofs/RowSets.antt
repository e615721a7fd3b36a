-- The operations that a row stands for, and what one more element does to them.
use Rattle.std.proofs.Common.{◌≡◌, ℕ, Bool, true, false, cond, ◌||◌, List, [], ◌∷◌, ◌++◌, take, drop, Some, refl, sym, ap, subst, ◌∙◌}
use Rattle.std.specs.Prelude.{map as each, filter, insert, is_some}
use Rattle.std.specs.Ordering.{eq_by_cmp}
use Rattle.std.specs.List.{AllByRecursion, list_any}
use Rattle.std.specs.FinMap as map
use Rattle.std.specs.FinSet as set
use Rattle.std.specs.FinMap.Entries.{find}
use Rattle.std.proofs.lemmas.List.{take-append-drop, map-append}
use Rattle.bg_types.specs.Identifier.{Identifier, id_cmp, same_id}
use Rattle.bg_types.proofs.Interface.{or_swap, id_cmp-total, id_cmp-exact, same_id-is, none_of}
use Rattle.rga_tree.specs.declared.element.Element.{Element}
use Rattle.rga_tree.specs.Row.{entry_of, hidden_ids, operations_of}
use Rattle.rga_tree.proofs.WalkAmong.{Entry}
use Rattle.rga_tree.proofs.Entries.{IsAbsent, absent_of}
use Rattle.rga_tree.proofs.SetSteps.{node_of, grown}
use Rattle.rga_tree.proofs.TreeAttached.{all_last}

cond_swap : {A : Type 0} (a b : Bool) (x y z : A) → (a ≡ true → b ≡ true → ⊥) → cond a x (cond b y z) ≡ cond b y (cond a x z)
cond_swap true true x y z apart = absurd (apart refl refl)
cond_swap true false x y z apart = refl
cond_swap false b x y z apart = refl

pub find_with : (l r : List Entry) (n : Entry) (q : Identifier) → IsAbsent n.0 l → find id_cmp q (l ++ n ∷ r) ≡ cond (eq_by_cmp id_cmp q n.0) (Some n.1) (find id_cmp q (l ++ r))
find_with [] r n q absent = refl
find_with (x ∷ l) r n q absent =
    ap (cond (eq_by_cmp id_cmp q x.0) (Some x.1)) (find_with l r n q absent.1)
    ∙ cond_swap (eq_by_cmp id_cmp q x.0) (eq_by_cmp id_cmp q n.0) (Some x.1) (Some n.1) (find id_cmp q (l ++ r))
    (λ at_x at_n. let same : same_id n.0 x.0 ≡ true = subst (λ m. same_id m x.0 ≡ true) (same_id-is q n.0 at_n) at_x in let other = absent.0 in absurd cc)

pub map_with : (l r : List Element) (n : Element) → IsAbsent n.id (each entry_of l)
    → map.from_entries {R = id_cmp} (each entry_of (l ++ n ∷ r)) ≡ map.insert (map.from_entries (each entry_of (l ++ r))) n.id (node_of n)
map_with l r n absent = map.same_map id_cmp-total id_cmp-exact _ _ (λ q.
    map.get-from_entries id_cmp-total (each entry_of (l ++ n ∷ r)) q
    ∙ ap (find id_cmp q) (map-append entry_of l (n ∷ r))
    ∙ find_with (each entry_of l) (each entry_of r) (entry_of n) q absent
    ∙ ap (λ es. cond (eq_by_cmp id_cmp q n.id) (Some (node_of n)) (find id_cmp q es)) (sym (map-append entry_of l r))
    ∙ sym (map.get-insert id_cmp-total (map.from_entries (each entry_of (l ++ r))) n.id (node_of n) q
    ∙ ap (cond (eq_by_cmp id_cmp q n.id) (Some (node_of n))) (map.get-from_entries id_cmp-total (each entry_of (l ++ r)) q)))

hidden_with : (p : Identifier → Bool) (l r : List Element) (n : Element) → list_any p (hidden_ids (l ++ n ∷ r)) ≡ (cond n.hidden (p n.id) false || list_any p (hidden_ids (l ++ r)))
hidden_with p [] r n = elim n.hidden as (λ b. list_any p (each (λ e. e.id) (cond b (n ∷ filter (λ e. e.hidden) r) (filter (λ e. e.hidden) r))) ≡ (cond b (p n.id) false || list_any p (hidden_ids r))) [ true ↦ refl | false ↦ refl ]
hidden_with p (x ∷ l) r n =
    elim x.hidden as (λ b. list_any p (each (λ e. e.id) (cond b (x ∷ filter (λ e. e.hidden) (l ++ n ∷ r)) (filter (λ e. e.hidden) (l ++ n ∷ r)))) ≡ (cond n.hidden (p n.id) false || list_any p (each (λ e. e.id) (cond b (x ∷ filter (λ e. e.hidden) (l ++ r)) (filter (λ e. e.hidden) (l ++ r)))))) [
      | true ↦ ap (λ t. p x.id || t) (hidden_with p l r n) ∙ or_swap (p x.id) (cond n.hidden (p n.id) false) (list_any p (hidden_ids (l ++ r)))
      | false ↦ hidden_with p l r n
    ]

pub set_with : (l r : List Element) (n : Element)
    → set.from_list {R = id_cmp} (hidden_ids (l ++ n ∷ r)) ≡ cond n.hidden (set.insert (set.from_list (hidden_ids (l ++ r))) n.id) (set.from_list (hidden_ids (l ++ r)))
set_with l r n = set.same_set id_cmp-total id_cmp-exact _ _ (λ q.
    let s = set.from_list {R = id_cmp} (hidden_ids (l ++ r)) in
    let known : set.contains s q ≡ list_any (eq_by_cmp id_cmp q) (hidden_ids (l ++ r)) = set.contains-from_list id_cmp-total (hidden_ids (l ++ r)) q in
    set.contains-from_list id_cmp-total (hidden_ids (l ++ n ∷ r)) q
    ∙ hidden_with (eq_by_cmp id_cmp q) l r n
    ∙ ap (λ b. cond n.hidden (eq_by_cmp id_cmp q n.id) false || b) (sym known)
    ∙ elim n.hidden as (λ b. (cond b (eq_by_cmp id_cmp q n.id) false || set.contains s q) ≡ set.contains (cond b (set.insert s n.id) s) q) [
      | true ↦ sym (set.contains-insert id_cmp-total s n.id q)
      | false ↦ refl
    ])

all_front : (P : Entry → Type 0) (xs ys : List Entry) → AllByRecursion P (xs ++ ys) → AllByRecursion P xs
all_front P [] ys h = tt
all_front P (x ∷ xs) ys h = (h.0, all_front P xs ys h.1)

pub get_row : (row : List Element) (q : Identifier) → map.get (operations_of row).ins q ≡ find id_cmp q (each entry_of row)
get_row row q = map.get-from_entries id_cmp-total (each entry_of row) q

pub absent_row : (row : List Element) (id : Identifier) → map.contains_key (operations_of row).ins id ≡ false → IsAbsent id (each entry_of row)
absent_row row id new = absent_of id (each entry_of row) (none_of (find id_cmp id (each entry_of row)) (ap is_some (sym (get_row row id)) ∙ new))

pub has_row : (row : List Element) (q : Identifier) → map.contains_key (operations_of row).ins q ≡ list_any (λ e. same_id q e.id) row
has_row row q = ap is_some (get_row row q) ∙ by_row row where
  by_row : (row : List Element) → is_some (find id_cmp q (each entry_of row)) ≡ list_any (λ e. same_id q e.id) row
  by_row [] = refl
  by_row (e ∷ row) = elim (same_id q e.id) as (λ b. is_some (cond b (Some (entry_of e).1) (find id_cmp q (each entry_of row))) ≡ (b || list_any (λ e. same_id q e.id) row)) [ true ↦ refl | false ↦ by_row row ]

pub absent_parts : (row : List Element) (i : ℕ) (id : Identifier) → IsAbsent id (each entry_of row) → IsAbsent id (each entry_of (take i row)) × IsAbsent id (each entry_of (drop i row))
absent_parts row i id h =
    let split : IsAbsent id (each entry_of (take i row) ++ each entry_of (drop i row)) =
    subst (λ es. IsAbsent id es) (sym (sym (map-append entry_of (take i row) (drop i row)) ∙ ap (each entry_of) (take-append-drop i row))) h in
    (all_front (λ e. same_id id e.0 ≡ false) (each entry_of (take i row)) (each entry_of (drop i row)) split, all_last (λ e. same_id id e.0 ≡ false) (each entry_of (take i row)) (each entry_of (drop i row)) split)

pub ops-insert : (row : List Element) (i : ℕ) (n : Element) → IsAbsent n.id (each entry_of row) → operations_of (insert row i n) ≡ grown (operations_of row) n
ops-insert row i n absent =
    let whole = take-append-drop i row in
    let m = map_with (take i row) (drop i row) n (absent_parts row i n.id absent).0 ∙ ap (λ r. map.insert (map.from_entries {R = id_cmp} (each entry_of r)) n.id (node_of n)) whole in
    let d = set_with (take i row) (drop i row) n ∙ ap (λ r. cond n.hidden (set.insert (set.from_list {R = id_cmp} (hidden_ids r)) n.id) (set.from_list (hidden_ids r))) whole in
    λ j. record { ins = m j; del = d j }

pub no_hidden : (id : Identifier) (row : List Element) → IsAbsent id (each entry_of row) → list_any (eq_by_cmp id_cmp id) (hidden_ids row) ≡ false
no_hidden id [] h = refl
no_hidden id (e ∷ row) h =
    elim e.hidden as (λ b. list_any (eq_by_cmp id_cmp id) (each (λ x. x.id) (cond b (e ∷ filter (λ x. x.hidden) row) (filter (λ x. x.hidden) row))) ≡ false) [
      | true ↦ ap (λ b. b || list_any (eq_by_cmp id_cmp id) (hidden_ids row)) h.0 ∙ no_hidden id row h.1
      | false ↦ no_hidden id row h.1
    ]
