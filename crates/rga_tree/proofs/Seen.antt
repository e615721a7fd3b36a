-- What a row answers, by the walk that it is.
use Rattle.std.proofs.Common.{◌≡◌, ℕ, zero, suc, ◌+◌, true, false, cond, not, List, [], ◌∷◌, length, take, Option, Some, None, refl, sym, ap, ◌∙◌}
use Rattle.std.specs.Prelude.{map as each, filter, slice_get, count_by}
use Rattle.std.proofs.lemmas.List.Sums.{sum_by-cons}
use Rattle.std.proofs.lemmas.Option.{slice_get-map}
use Rattle.std.specs.Option.{option_map}
use Rattle.std.specs.List.{find as find_in, prefix_len}
use Rattle.std.specs.FinMap as map
use Rattle.std.specs.FinMap.Entries.{find}
use Rattle.bg_types.specs.Identifier.{Identifier, id_cmp, same_id}
use Rattle.bg_types.specs.OperationSet.{OperationSet}
use Rattle.bg_types.specs.declared.op.Place.TheVariants.{Root}
use Rattle.bg_types.proofs.Interface.{same_id-is}
use Rattle.rga_tree.specs.declared.element.Element.{Element}
use Rattle.rga_tree.specs.Walk.{walk}
use Rattle.rga_tree.specs.TextOf.{is_erased, visible, visible_ids, visible_before, text}
use Rattle.rga_tree.specs.Elements.{element_of, elements}
use Rattle.rga_tree.specs.Row.{entry_of, operations_of}
use Rattle.rga_tree.specs.KeepsWalk.{KeepsWalk}
use Rattle.rga_tree.proofs.WalkAmong.{Entry}
use Rattle.rga_tree.proofs.RowSets.{get_row}

-- the element with an identifier
pub element_row : (row : List Element) (id : Identifier) → KeepsWalk row → find_in (λ e. same_id id e.id) row ≡ option_map (λ node. element_of (operations_of row) (id, node)) (map.get (operations_of row).ins id)
element_row row id keeps =
    let s = operations_of row in
    let w = walk s Root in
    ap (find_in (λ e. same_id id e.id)) keeps.in_order ∙ by_walk w
    ∙ ap (option_map (λ node. element_of s (id, node))) (ap (λ r. find id_cmp id (each entry_of r)) (sym keeps.in_order) ∙ sym (get_row row id)) where
      by_walk : (es : List Entry) → find_in (λ e. same_id id e.id) (each (element_of (operations_of row)) es) ≡ option_map (λ node. element_of (operations_of row) (id, node)) (find id_cmp id (each entry_of (each (element_of (operations_of row)) es)))
      by_walk [] = refl
      by_walk (e ∷ es) =
          elim (same_id id e.0) as (λ b. same_id id e.0 ≡ b → cond b (Some (element_of (operations_of row) e)) (find_in (λ x. same_id id x.id) (each (element_of (operations_of row)) es))
          ≡ option_map (λ node. element_of (operations_of row) (id, node)) (cond b (Some e.1) (find id_cmp id (each entry_of (each (element_of (operations_of row)) es))))) [
            | true ↦ λ here. ap (λ j. Some (element_of (operations_of row) (j, e.1))) (sym (same_id-is id e.0 here))
            | false ↦ λ _. by_walk es
          ] refl

-- the visible elements of a row
pub visible_row : (row : List Element) → row ≡ elements (operations_of row) → length (filter (λ e. not e.hidden) row) ≡ length (visible (operations_of row))
visible_row row in_order = ap (λ r. length (filter (λ e. not e.hidden) r)) in_order ∙ by_walk (walk (operations_of row) Root) where
  by_walk : (es : List Entry) → length (filter (λ e. not e.hidden) (each (element_of (operations_of row)) es)) ≡ length (filter (λ e. not (is_erased (operations_of row) e.0)) es)
  by_walk [] = refl
  by_walk (e ∷ es) = elim (is_erased (operations_of row) e.0) as (λ b. length (cond (not b) (element_of (operations_of row) e ∷ filter (λ e. not e.hidden) (each (element_of (operations_of row)) es)) (filter (λ e. not e.hidden) (each (element_of (operations_of row)) es))) ≡ length (cond (not b) (e ∷ filter (λ e. not (is_erased (operations_of row) e.0)) es) (filter (λ e. not (is_erased (operations_of row) e.0)) es))) [ true ↦ by_walk es | false ↦ ap suc (by_walk es) ]

-- the visible elements of a row are those of the walk
pub filter_seen : (s : OperationSet) (es : List Entry) → filter (λ e. not e.hidden) (each (element_of s) es) ≡ each (element_of s) (filter (λ e. not (is_erased s e.0)) es)
filter_seen s [] = refl
filter_seen s (e ∷ es) =
    elim (is_erased s e.0) as (λ b. cond (not b) (element_of s e ∷ filter (λ e. not e.hidden) (each (element_of s) es)) (filter (λ e. not e.hidden) (each (element_of s) es)) ≡ each (element_of s) (cond (not b) (e ∷ filter (λ e. not (is_erased s e.0)) es) (filter (λ e. not (is_erased s e.0)) es))) [
      | true ↦ filter_seen s es
      | false ↦ ap (λ t. element_of s e ∷ t) (filter_seen s es)
    ]

pub visible_elements : (row : List Element) → row ≡ elements (operations_of row) → filter (λ e. not e.hidden) row ≡ each (element_of (operations_of row)) (visible (operations_of row))
visible_elements row in_order = ap (filter (λ e. not e.hidden)) in_order ∙ filter_seen (operations_of row) (walk (operations_of row) Root)

-- what a place among the visible ones tells
pub seen_at : (row : List Element) (k : ℕ) (e : Element) → row ≡ elements (operations_of row) → slice_get (filter (λ x. not x.hidden) row) k ≡ Some e
    → (slice_get (visible_ids (operations_of row)) k ≡ Some e.id) × (slice_get (text (operations_of row)) k ≡ Some e.ch)
seen_at row k e in_order is =
    let s = operations_of row in
    let v = visible s in
    let at : option_map (element_of s) (slice_get v k) ≡ Some e = sym (slice_get-map (element_of s) v k) ∙ ap (λ r. slice_get r k) (sym (visible_elements row in_order)) ∙ is in
    (slice_get-map (λ x. x.0) v k ∙ by_id (slice_get v k) at, slice_get-map (λ x. x.1.ch) v k ∙ by_ch (slice_get v k) at) where
      by_id : (o : Option Entry) → option_map (element_of (operations_of row)) o ≡ Some e → option_map (λ (x : Entry). x.0) o ≡ Some e.id
      by_id None h = absurd cc
      by_id (Some x) h = let same : element_of (operations_of row) x ≡ e = cc in ap (λ (y : Element). Some y.id) same

      by_ch : (o : Option Entry) → option_map (element_of (operations_of row)) o ≡ Some e → option_map (λ (x : Entry). x.1.ch) o ≡ Some e.ch
      by_ch None h = absurd cc
      by_ch (Some x) h = let same : element_of (operations_of row) x ≡ e = cc in ap (λ (y : Element). Some y.ch) same

-- ---- how many visible ones stand before one

prefix_seen : (s : OperationSet) (id : Identifier) (es : List Entry) → prefix_len (λ e. not (same_id id e.id)) (each (element_of s) es) ≡ prefix_len (λ e. not (same_id id e.0)) es
prefix_seen s id [] = refl
prefix_seen s id (e ∷ es) = ap (λ n. cond (not (same_id id e.0)) (1 + n) 0) (prefix_seen s id es)

count_seen : (s : OperationSet) (n : ℕ) (es : List Entry) → count_by (λ e. not e.hidden) (take n (each (element_of s) es)) ≡ count_by (λ e. not (is_erased s e.0)) (take n es)
count_seen s zero es = refl
count_seen s (suc n) [] = refl
count_seen s (suc n) (e ∷ es) =
    let one = cond (not (is_erased s e.0)) 1 0 in
    sum_by-cons (λ (x : Element). cond (not x.hidden) 1 0) (element_of s e) (take n (each (element_of s) es))
    ∙ ap (λ k. one + k) (count_seen s n es)
    ∙ sym (sum_by-cons (λ (x : Entry). cond (not (is_erased s x.0)) 1 0) e (take n es))

-- elements count them as the walk does
pub before_elements : (s : OperationSet) (id : Identifier) → count_by (λ e. not e.hidden) (take (prefix_len (λ e. not (same_id id e.id)) (elements s)) (elements s)) ≡ visible_before s id
before_elements s id =
    ap (λ n. count_by (λ (e : Element). not e.hidden) (take n (elements s))) (prefix_seen s id (walk s Root))
    ∙ count_seen s (prefix_len (λ (e : Entry). not (same_id id e.0)) (walk s Root)) (walk s Root)

pub before_row : (row : List Element) (id : Identifier) → row ≡ elements (operations_of row)
    → count_by (λ e. not e.hidden) (take (prefix_len (λ e. not (same_id id e.id)) row) row) ≡ visible_before (operations_of row) id
before_row row id in_order =
    ap (λ r. count_by (λ (e : Element). not e.hidden) (take (prefix_len (λ (e : Element). not (same_id id e.id)) r) r)) in_order ∙ before_elements (operations_of row) id
