-- Which insertions are read: the definition Attached.
use Rattle.std.specs.Prelude.{◌≡◌, ◌↔◌, ℕ, Bool, Some}
use Rattle.std.specs.List.{list_any}
use Rattle.std.specs.FinMap as map
use Rattle.bg_types.specs.Identifier.{Identifier, same_id}
use Rattle.bg_types.specs.OperationSet.{Node, OperationSet}
use Rattle.bg_types.specs.declared.op.Place.TheVariants.{Root, After}
use Rattle.rga_tree.specs.Walk.{Insertions, walked_ids}

-- the chain of parents from the identifier reaches the root inside ins(S)
pub data IsAttached (ins : Insertions) : Identifier → Type 0 where
  below_root : (id : Identifier) (ch : ℕ) → map.get ins id ≡ Some (record { parent = Root; ch = ch }) → IsAttached ins id
  below : (id parent : Identifier) (ch : ℕ) → map.get ins id ≡ Some (record { parent = After parent; ch = ch }) → IsAttached ins parent → IsAttached ins id

-- t has the insertions of S that are attached there, and no others
abbrev pub IsAttachedPart : OperationSet → OperationSet → Type 0
IsAttachedPart s t = (id : Identifier) (node : Node) → (map.get t.ins id ≡ Some node) ↔ ((map.get s.ins id ≡ Some node) × IsAttached s.ins id)

-- the test of it: the walk from the root lists the identifier
abbrev pub is_attached : OperationSet → Identifier → Bool
is_attached s id = list_any (same_id id) (walked_ids s)
