-- Sets of operations: the definition OperationSet.
use Rattle.std.specs.Prelude.{◌≡◌, ◌≢◌, ℕ, ◌+◌, ◌++◌, ◌∷◌, [], List, Some, true, map as each}
use Rattle.std.specs.List.{flat_map}
use Rattle.std.specs.FinMap as map
use Rattle.std.specs.FinSet as set
use Rattle.bg_types.specs.Identifier.{Identifier, id_cmp}
use Rattle.bg_types.specs.WellFormed.{IsWellFormed}
pub use Rattle.bg_types.specs.Numbers.{greatest}
use Rattle.bg_types.specs.declared.op.Place.{Place}
use Rattle.bg_types.specs.declared.op.Place.TheVariants.{Root, After}
use Rattle.bg_types.specs.declared.op.OpView.{OpView}
use Rattle.bg_types.specs.declared.op.OpView.TheVariants.{Insert, Erase}

-- what an insertion says of its identifier
pub record Node : Type 0 where
  pub parent : Place
  pub ch : ℕ

-- ins: the insertions, by identifier. del: the targets of the deletions
pub record OperationSet : Type 0 where
  pub ins : map.FinMap id_cmp Node
  pub del : set.FinSet id_cmp

abbrev pub no_operations : OperationSet
no_operations = record { ins = map.empty; del = set.empty }

-- the operation is in S
abbrev pub Holds : OperationSet → OpView → Type 0
Holds s (Insert id parent ch) = map.get s.ins id ≡ Some (record { parent = parent; ch = ch })
Holds s (Erase target) = set.contains s.del target ≡ true

-- S + op
abbrev pub with_operation : OperationSet → OpView → OperationSet
with_operation s (Insert id parent ch) = record s { ins = map.insert s.ins id (record { parent = parent; ch = ch }) }
with_operation s (Erase target) = record s { del = set.insert s.del target }

-- what S has at the operation's identifier, if anything, is the operation
abbrev pub MayJoin : OperationSet → OpView → Type 0
MayJoin s (Insert id parent ch) = (kept : Node) → map.get s.ins id ≡ Some kept → kept ≡ record { parent = parent; ch = ch }
MayJoin s (Erase target) = Unit {0}

-- the operation inserts an identifier of S with another parent or character
abbrev pub ReusesIdentifier : OperationSet → OpView → Type 0
ReusesIdentifier s (Insert id parent ch) = (kept : Node) × (map.get s.ins id ≡ Some kept) × (kept ≢ record { parent = parent; ch = ch })
ReusesIdentifier s (Erase target) = ⊥

-- the maps agree on common identifiers: where the union is defined
abbrev pub Agree : OperationSet → OperationSet → Type 0
Agree s t = (id : Identifier) (a b : Node) → map.get s.ins id ≡ Some a → map.get t.ins id ≡ Some b → a ≡ b

-- the operations of both
abbrev pub union : OperationSet → OperationSet → OperationSet
union s t = record { ins = map.from_entries (map.entries s.ins ++ map.entries t.ins); del = set.union s.del t.del }

-- how many operations there are
abbrev pub size : OperationSet → ℕ
size s = map.len s.ins + set.len s.del

abbrev pub parent_counters : Place → List ℕ
parent_counters Root = []
parent_counters (After parent) = parent.counter ∷ []

-- the counters that an operation names: as an identifier, a parent or a target
abbrev pub named_counters : OpView → List ℕ
named_counters (Insert id parent ch) = id.counter ∷ parent_counters parent
named_counters (Erase target) = target.counter ∷ []

-- the operations of S, the insertions first, each in rising order of identifier
abbrev pub operations : OperationSet → List OpView
operations s = each (λ e. Insert e.0 e.1.parent e.1.ch) (map.entries s.ins) ++ each Erase (set.items s.del)

-- 1 plus the greatest counter that S names, or 1 where S is empty
abbrev pub next : OperationSet → ℕ
next s = greatest (flat_map named_counters (operations s)) + 1

-- each operation is well formed
abbrev pub AllWellFormed : OperationSet → Type 0
AllWellFormed s = (op : OpView) → Holds s op → IsWellFormed op
