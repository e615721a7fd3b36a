-- Sets in which each insertion has its parent, so that all are attached.
use Rattle.std.specs.Prelude.{◌≡◌, Bool, true, Some}
use Rattle.std.specs.FinMap as map
use Rattle.std.specs.FinSet as set
use Rattle.bg_types.specs.Identifier.{Identifier}
use Rattle.bg_types.specs.OperationSet.{Node, OperationSet}
use Rattle.bg_types.specs.declared.op.Place.{Place}
use Rattle.bg_types.specs.declared.op.Place.TheVariants.{Root, After}

-- the parent is the root, or an insertion of S
abbrev pub stands_in : OperationSet → Place → Bool
stands_in s Root = true
stands_in s (After parent) = map.contains_key s.ins parent

-- the parent of each insertion is in S
abbrev pub IsTree : OperationSet → Type 0
IsTree s = (id : Identifier) (node : Node) → map.get s.ins id ≡ Some node → stands_in s node.parent ≡ true

-- each deletion's target is an insertion of S
abbrev pub OnlyErasesPlaced : OperationSet → Type 0
OnlyErasesPlaced s = (id : Identifier) → set.contains s.del id ≡ true → map.contains_key s.ins id ≡ true
