-- The walk of a set is that of its attached part.
use Rattle.std.proofs.Common.{◌≡◌, true, Option, Some, None, refl, ◌∙◌}
use Rattle.std.specs.Prelude.{◌↔◌, is_some}
use Rattle.std.specs.FinMap as map
use Rattle.bg_types.specs.Identifier.{Identifier}
use Rattle.bg_types.specs.OperationSet.{Node, OperationSet, AllWellFormed}
use Rattle.bg_types.specs.declared.op.Place.TheVariants.{Root, After}
use Rattle.rga_tree.specs.Walk.{walk}
use Rattle.rga_tree.specs.Attached.{IsAttached, IsAttachedPart}
use Rattle.rga_tree.specs.Attached.IsAttached.{below_root, below}
use Rattle.rga_tree.proofs.AttachedWalk.{all_weaker_by, all_attached}
use Rattle.rga_tree.proofs.SubWalk.{has, is_had, filter_all, walk-kept}

-- in the part they are attached too
IsAttached-part : (s t : OperationSet) → IsAttachedPart s t → {id : Identifier} → IsAttached s.ins id → IsAttached t.ins id
IsAttached-part s t part (below_root id ch is) = below_root id ch ((part id (record { parent = Root; ch = ch })).1 (is, below_root id ch is))
IsAttached-part s t part (below id parent ch is up) = below id parent ch ((part id (record { parent = After parent; ch = ch })).1 (is, below id parent ch is up)) (IsAttached-part s t part up)

-- whatever the part has is attached
has-part : (s t : OperationSet) → IsAttachedPart s t → (id : Identifier) → (has t id ≡ true) ↔ IsAttached t.ins id
has-part s t part id = (by_look (map.get t.ins id) refl, is_had t.ins) where
  by_look : (o : Option Node) → map.get t.ins id ≡ o → is_some o ≡ true → IsAttached t.ins id
  by_look None is h = absurd cc
  by_look (Some node) is h = IsAttached-part s t part ((part id node).0 is).1

pub walk-part : (s t : OperationSet) → AllWellFormed s → IsAttachedPart s t → walk t Root ≡ walk s Root
walk-part s t well part =
    walk-kept t s (λ q node held. ((part q node).0 held).0) (has t) (has-part s t part) well
    ∙ filter_all (λ e. has t e.0) (walk s Root)
    (all_weaker_by (λ e. IsAttached s.ins e.0) (λ e. has t e.0 ≡ true) (walk s Root) (λ e at. is_had t.ins (IsAttached-part s t part at)) (all_attached s (map.len s.ins) Root tt))
