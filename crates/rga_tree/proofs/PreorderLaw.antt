-- The walk from a place is that of its children, the greatest first.
use Rattle.std.proofs.Common.{◌≡◌, ◌∷◌, sym, ◌∙◌}
use Rattle.std.specs.List.{flat_map}
use Rattle.bg_types.specs.OperationSet.{OperationSet, AllWellFormed}
use Rattle.bg_types.specs.declared.op.Place.{Place}
use Rattle.bg_types.specs.declared.op.Place.TheVariants.{After}
use Rattle.rga_tree.specs.Walk.{walk, children}
use Rattle.rga_tree.proofs.Entries.{entries_of, Rises-entries, AreWellFounded-entries}
use Rattle.rga_tree.proofs.Preorder.{walk_among-children}
use Rattle.rga_tree.proofs.Depth.{walk-among}

pub walk-preorder : (s : OperationSet) → AllWellFormed s → (p : Place) → walk s p ≡ flat_map (λ e. e ∷ walk s (After e.0)) (children s.ins p)
walk-preorder s well p =
    walk-among s p well ∙ walk_among-children (entries_of s) p (Rises-entries s) (AreWellFounded-entries s well)
    ∙ (λ i. flat_map (λ e. e ∷ sym (walk-among s (After e.0) well) i) (children s.ins p))
