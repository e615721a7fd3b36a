-- The order in which a set's walk reads its characters, erased ones included.
use Rattle.std.specs.Prelude.{◌≡◌, ◌++◌, ◌∷◌, List}
use Rattle.bg_types.specs.Identifier.{Identifier}
use Rattle.bg_types.specs.OperationSet.{OperationSet}
use Rattle.rga_tree.specs.Walk.{walked_ids}

-- a stands in the list, and after it b
pub record StandsBefore (ids : List Identifier) (a b : Identifier) : Type 0 where
  pub front : List Identifier
  pub between : List Identifier
  pub back : List Identifier
  pub in_order : ids ≡ front ++ a ∷ between ++ b ∷ back

-- a stands before b in the walk from the root
abbrev pub Precedes : OperationSet → Identifier → Identifier → Type 0
Precedes s a b = StandsBefore (walked_ids s) a b

-- x stands after a and before b
abbrev pub StandsBetween : OperationSet → Identifier → Identifier → Identifier → Type 0
StandsBetween s a x b = Precedes s a x × Precedes s x b
