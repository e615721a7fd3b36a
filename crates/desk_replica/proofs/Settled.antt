-- Between two calls the tree holds what is attached of all operations that are kept.
use Rattle.std.proofs.Common.{◌≡◌, true, false, not, cond, List, [], ◌∷◌, Option, None, Some, sym, ap, ◌∙◌, refl, true≢false, is_some}
use Rattle.std.specs.Prelude.{map as each, filter}
use Rattle.std.specs.List.{AllByRecursion}
use Rattle.std.specs.FinMap as map
use Rattle.std.specs.FinSet as set
use Rattle.bg_types.specs.Identifier.{Identifier}
use Rattle.bg_types.specs.OperationSet.{Node, OperationSet, AllWellFormed, union}
use Rattle.bg_types.specs.declared.op.Place.TheVariants.{Root, After}
use Rattle.bg_types.specs.declared.op.OpView.TheVariants.{Insert, Erase}
use Rattle.bg_types.proofs.Interface.{one_of, get-union}
use Rattle.rga_tree.specs.Walk.{walk}
use Rattle.rga_tree.specs.Attached.{IsAttached, IsAttachedPart}
use Rattle.rga_tree.specs.Attached.IsAttached.{below_root, below}
use Rattle.rga_tree.specs.TextOf.{text, visible, is_erased}
use Rattle.rga_tree.specs.Tree.{stands_in, IsTree, OnlyErasesPlaced}
use Rattle.rga_tree.specs.Elements.{elements, element_of}
use Rattle.rga_tree.proofs.Interface.{Entry, all_attached, all_weaker_by, walk-part, IsAttached-tree, IsAttached-more}
use Rattle.desk_replica.specs.Placement.{IsParted}
use Rattle.desk_replica.proofs.Whole.{contains-union, first_some, or_false, which}

-- each operation that is kept is well formed
pub AllWellFormed-union : (t h : OperationSet) → AllWellFormed t → AllWellFormed h → AllWellFormed (union t h)
AllWellFormed-union t h wt wh (Insert id parent ch) held =
    which (map.get t.ins id) (map.get h.ins id) (record { parent = parent; ch = ch }) _ (sym (get-union t h id) ∙ held) (wt (Insert id parent ch)) (λ _ e. wh (Insert id parent ch) e)
AllWellFormed-union t h wt wh (Erase target) held = one_of (set.contains t.del target) (set.contains h.del target) _ (sym (contains-union t h target) ∙ held) (wt (Erase target)) (wh (Erase target))

pub there : (o : Option Node) → is_some o ≡ true → (n : Node) × (o ≡ Some n)
there None h = absurd (true≢false (sym h))
there (Some n) h = (n, refl)

module _ (t h : OperationSet) (wt : AllWellFormed t) (wh : AllWellFormed h) (tree : IsTree t) (only : OnlyErasesPlaced t) (d : IsParted t h (λ _. false)) where
  pub in_whole : (q : Identifier) (n : Node) → map.get t.ins q ≡ Some n → map.get (union t h).ins q ≡ Some n
  in_whole q n e = get-union t h q ∙ first_some (map.get t.ins q) (map.get h.ins q) n e

  -- where the parent of an insertion is in the tree, so is it
  standing : (q : Identifier) (n : Node) → map.get (union t h).ins q ≡ Some n → stands_in t n.parent ≡ true → map.get t.ins q ≡ Some n
  standing q n e s = which (map.get t.ins q) (map.get h.ins q) n _ (sym (get-union t h q) ∙ e) (λ k. k) (λ _ k. absurd (true≢false (sym s ∙ d.waits q n k refl)))

  pub attached_placed : (q : Identifier) → IsAttached (union t h).ins q → map.contains_key t.ins q ≡ true
  attached_placed q (below_root id ch e) = ap is_some (standing id (record { parent = Root; ch = ch }) e refl)
  attached_placed q (below id parent ch e up) = ap is_some (standing id (record { parent = After parent; ch = ch }) e (attached_placed parent up))

  pub placed_attached : (q : Identifier) → map.contains_key t.ins q ≡ true → IsAttached (union t h).ins q
  placed_attached q e = IsAttached-more t.ins (union t h).ins in_whole (IsAttached-tree t q wt tree e)

  pub part : IsAttachedPart (union t h) t
  part q n = (
    (λ e. (in_whole q n e, placed_attached q (ap is_some e))),
    (λ w. let k = there (map.get t.ins q) (attached_placed q w.1) in k.1 ∙ sym (in_whole q k.0 k.1) ∙ w.0),
  )

  pub whole_formed : AllWellFormed (union t h)
  whole_formed = AllWellFormed-union t h wt wh

  pub walk-whole : walk (union t h) Root ≡ walk t Root
  walk-whole = sym (walk-part (union t h) t whole_formed part)

  pub mark-whole : (q : Identifier) → map.contains_key t.ins q ≡ true → is_erased (union t h) q ≡ is_erased t q
  mark-whole q e = contains-union t h q ∙ or_false (set.contains t.del q) (set.contains h.del q) (d.early q e)

  all_placed : AllByRecursion (λ (e : Entry). map.contains_key t.ins e.0 ≡ true) (walk t Root)
  all_placed = all_weaker_by (λ e. IsAttached t.ins e.0) (λ e. map.contains_key t.ins e.0 ≡ true) (walk t Root) (λ e at. in_itself at) (all_attached t (map.len t.ins) Root tt)
    where
      in_itself : {q : Identifier} → IsAttached t.ins q → map.contains_key t.ins q ≡ true
      in_itself (below_root id ch e) = ap is_some e
      in_itself (below id parent ch e up) = ap is_some e

  same_elements : (es : List Entry) → AllByRecursion (λ (e : Entry). map.contains_key t.ins e.0 ≡ true) es → each (element_of (union t h)) es ≡ each (element_of t) es
  same_elements [] k = refl
  same_elements (e ∷ es) k = λ i. record { id = e.0; parent = e.1.parent; ch = e.1.ch; hidden = mark-whole e.0 k.0 i } ∷ same_elements es k.1 i

  pub elements-whole : elements (union t h) ≡ elements t
  elements-whole = ap (each (element_of (union t h))) walk-whole ∙ same_elements (walk t Root) all_placed

  same_seen : (es : List Entry) → AllByRecursion (λ (e : Entry). map.contains_key t.ins e.0 ≡ true) es → filter (λ e. not (is_erased (union t h) e.0)) es ≡ filter (λ e. not (is_erased t e.0)) es
  same_seen [] k = refl
  same_seen (e ∷ es) k = λ i. cond (not (mark-whole e.0 k.0 i)) (e ∷ same_seen es k.1 i) (same_seen es k.1 i)

  pub visible-whole : visible (union t h) ≡ visible t
  visible-whole = ap (filter (λ (e : Entry). not (is_erased (union t h) e.0))) walk-whole ∙ same_seen (walk t Root) all_placed

  pub text-whole : text (union t h) ≡ text t
  text-whole = ap (each (λ (e : Entry). e.1.ch)) visible-whole
