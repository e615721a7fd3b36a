-- The walk with one more leaf is the old walk with the leaf put in at its place.
use Rattle.std.proofs.Common.{◌≡◌, ◌≤◌, ◌+◌, true, false, cond, not, ◌||◌, List, [], ◌∷◌, length, ◌∙◌, arith}
use Rattle.std.specs.Prelude.{map as each, insert}
use Rattle.std.specs.List.{prefix_len}
use Rattle.std.specs.FinMap as map
use Rattle.bg_types.specs.Identifier.{Identifier, same_id}
use Rattle.bg_types.specs.WellFormed.{IsWellFormed}
use Rattle.bg_types.specs.OperationSet.{Node, OperationSet, AllWellFormed, with_operation}
use Rattle.bg_types.specs.declared.op.Place.{Place}
use Rattle.bg_types.specs.declared.op.Place.TheVariants.{Root, After}
use Rattle.bg_types.specs.declared.op.OpView.TheVariants.{Insert}
use Rattle.rga_tree.specs.Walk.{walk}
use Rattle.rga_tree.specs.Tree.{stands_in, IsTree}
use Rattle.rga_tree.specs.Elements.{element_of, elements}
use Rattle.rga_tree.specs.Row.{start_of, place_of}
use Rattle.rga_tree.specs.Leaf.{IsParent, IsAttachedParent}
use Rattle.rga_tree.proofs.WalkAmong.{Entry}
use Rattle.rga_tree.proofs.Entries.{childless, no_parent, IsAbsent-entries}
use Rattle.rga_tree.proofs.SetSteps.{walk-new}
use Rattle.rga_tree.proofs.RowPlaces.{among-insert}
use Rattle.rga_tree.proofs.Listed.{is_listed}
use Rattle.rga_tree.proofs.AttachedWalk.{listed-attached}
use Rattle.rga_tree.proofs.WalkDistinct.{AreDistinct-walked}
use Rattle.rga_tree.proofs.TreeAttached.{IsAttached-tree}

listed_before : (s : OperationSet) (a : Identifier) (es : List Entry) → is_listed a es ≡ true
    → prefix_len (λ e. not (same_id a e.id)) (each (element_of s) es) + 1 ≤ length (each (element_of s) es)
listed_before s a [] h = absurd cc
listed_before s a (e ∷ es) h =
    elim (same_id a e.0) as (λ b. (b || is_listed a es) ≡ true
    → cond (not b) (1 + prefix_len (λ x. not (same_id a x.id)) (each (element_of s) es)) 0 + 1 ≤ length (element_of s e ∷ each (element_of s) es)) [
      | true ↦ λ _. omega arith
      | false ↦ λ h. let more = listed_before s a es h in omega arith
    ] h

within : (s : OperationSet) (p : Place) → AllWellFormed s → IsAttachedParent s p → start_of p (elements s) ≤ length (elements s)
within s Root well stands = omega arith
within s (After a) well stands = listed_before s a (walk s Root) (listed-attached s a well stands)

-- below the root or an attached parent, where parents may be missing
pub walk-leaf_attached : (s : OperationSet) (id : Identifier) (node : Node) → AllWellFormed s → IsWellFormed (Insert id node.parent node.ch)
    → map.contains_key s.ins id ≡ false → (IsParent s id → ⊥) → IsAttachedParent s node.parent
    → walk (with_operation s (Insert id node.parent node.ch)) Root ≡ insert (walk s Root) (place_of node.parent id (elements s)) (id, node)
walk-leaf_attached s id node well is new none stands =
    walk-new s id node well is (IsAbsent-entries s id new) (childless s id none)
    ∙ among-insert s (id, node) (walk s Root) (AreDistinct-walked s well) (within s node.parent well stands)

attached_in : (s : OperationSet) (p : Place) → AllWellFormed s → IsTree s → stands_in s p ≡ true → IsAttachedParent s p
attached_in s Root well tree stands = tt
attached_in s (After a) well tree stands = IsAttached-tree s a well tree stands

-- in a tree
pub walk-leaf_at : (s : OperationSet) (id : Identifier) (node : Node) → AllWellFormed s → IsTree s → IsWellFormed (Insert id node.parent node.ch)
    → stands_in s node.parent ≡ true → map.contains_key s.ins id ≡ false
    → walk (with_operation s (Insert id node.parent node.ch)) Root ≡ insert (walk s Root) (place_of node.parent id (elements s)) (id, node)
walk-leaf_at s id node well tree is stands new = walk-leaf_attached s id node well is new (no_parent s id tree new) (attached_in s node.parent well tree stands)
