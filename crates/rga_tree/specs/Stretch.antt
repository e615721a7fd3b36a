-- What stands below an identifier, and runs of characters each typed after the one before.
use Rattle.std.specs.Prelude.{◌≡◌, ◌↔◌, ◌++◌, ◌∷◌, List, [], Some, Contains}
use Rattle.std.specs.FinMap as map
use Rattle.bg_types.specs.Identifier.{Identifier}
use Rattle.bg_types.specs.OperationSet.{Node, OperationSet}
use Rattle.bg_types.specs.declared.op.Place.{Place}
use Rattle.bg_types.specs.declared.op.Place.TheVariants.{After}
use Rattle.rga_tree.specs.Walk.{Insertions, walked_ids}
use Rattle.rga_tree.specs.Order.{Precedes}

-- the identifier's insertion names this parent
abbrev pub IsChild : Insertions → Place → Identifier → Type 0
IsChild ins place id = (node : Node) × (map.get ins id ≡ Some node) × (node.parent ≡ place)

-- the chain of parents from the identifier meets top
pub data StandsBelow (ins : Insertions) (top : Identifier) : Identifier → Type 0 where
  child : (id : Identifier) → IsChild ins (After top) id → StandsBelow ins top id
  deeper : (id parent : Identifier) → IsChild ins (After parent) id → StandsBelow ins top parent → StandsBelow ins top id

-- top and all below it, and nothing else, stand in one unbroken stretch of the walk
pub record IsUnbroken (s : OperationSet) (top : Identifier) : Type 0 where
  pub front : List Identifier
  pub below : List Identifier
  pub back : List Identifier
  pub in_order : walked_ids s ≡ front ++ (top ∷ below) ++ back
  pub all_below : (id : Identifier) → Contains below id ↔ StandsBelow s.ins top id

-- each next one is a child of the one before
abbrev pub IsRun : Insertions → List Identifier → Type 0
IsRun ins [] = Unit {0}
IsRun ins (a ∷ []) = Unit {0}
IsRun ins (a ∷ b ∷ ids) = IsChild ins (After a) b × IsRun ins (b ∷ ids)

-- each of the first stands before each of the second
abbrev pub IsLeftOf : OperationSet → List Identifier → List Identifier → Type 0
IsLeftOf s xs ys = (a b : Identifier) → Contains xs a → Contains ys b → Precedes s a b
