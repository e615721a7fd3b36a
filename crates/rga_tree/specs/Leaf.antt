-- What the skipping law asks of a new insertion.
use Rattle.std.specs.Prelude.{◌≡◌, Some}
use Rattle.std.specs.FinMap as map
use Rattle.bg_types.specs.Identifier.{Identifier}
use Rattle.bg_types.specs.OperationSet.{Node, OperationSet}
use Rattle.bg_types.specs.declared.op.Place.{Place}
use Rattle.bg_types.specs.declared.op.Place.TheVariants.{Root, After}
use Rattle.rga_tree.specs.Attached.{IsAttached}

-- an insertion of S has the identifier as its parent
abbrev pub IsParent : OperationSet → Identifier → Type 0
IsParent s id = (child : Identifier) × (node : Node) × (map.get s.ins child ≡ Some node) × (node.parent ≡ After id)

-- the parent is the root, or attached in S
abbrev pub IsAttachedParent : OperationSet → Place → Type 0
IsAttachedParent s Root = Unit {0}
IsAttachedParent s (After parent) = IsAttached s.ins parent
