-- How the tables of a store of early operations hang together.
use Rattle.std.specs.Prelude.{◌≡◌, ◌≤◌, ◌+◌, ◌++◌, Bool, true, false, ℕ, length, List, [], ◌∷◌, Option, Some, None, is_some, map as each}
use Rattle.std.specs.Option.{option_map_or}
use Rattle.std.specs.List.{list_any}
use Rattle.std.specs.Map.{lookup}
use Rattle.std.specs.FinMap as map
use Rattle.std.specs.FinSet as set
use Rattle.indexmap.specs.IndexMap.{IndexMap, spare}
use Rattle.indexmap.specs.IndexSet as index_set
use Rattle.bg_types.specs.declared.keyed.Keyed.{Keyed}
use Rattle.bg_types.specs.Identifier.{Identifier, id_cmp, same_id}
use Rattle.bg_types.specs.OperationSet.{Node}
use Rattle.bg_types.specs.WellFormed.{MayFollow}
use Rattle.bg_types.specs.declared.op.OpView.{OpView}
use Rattle.bg_types.specs.declared.op.OpView.TheVariants.{Insert, Erase}
use Rattle.pending_ops.specs.declared.chains.Slot.{Slot}
use Rattle.pending_ops.specs.Waiting.{Waiting, is_after}

abbrev pub node_in : Slot → Node
node_in s = record { parent = s.parent; ch = s.ch }

abbrev pub slot_in : List (Identifier × Slot) → Identifier → Option Slot
slot_in es q = lookup (same_id q) es

abbrev pub first_in : List (Identifier × Identifier) → Identifier → Option Identifier
first_in es p = lookup (same_id p) es

abbrev pub is_in : List Identifier → Identifier → Bool
is_in xs q = list_any (same_id q) xs

-- each occurs once
abbrev pub AreApart : List Identifier → Type 0
AreApart [] = Unit {0}
AreApart (x ∷ xs) = (is_in xs x ≡ false) × AreApart xs

-- the slot of q names the parent p
abbrev pub names : (Identifier → Option Slot) → Identifier → Identifier → Bool
names slot p q = option_map_or (λ s. is_after s.parent p) (slot q) false

-- the links from the start lead through these, and then end
abbrev pub Links : (Identifier → Option Slot) → Option Identifier → List Identifier → Type 0
Links slot start [] = start ≡ None
Links slot start (x ∷ xs) = (start ≡ Some x) × ((s : Slot) × ((slot x ≡ Some s) × Links slot s.next xs))

-- the links from the start lead through those that name the parent p, once each
pub record IsChainOf (slot : Identifier → Option Slot) (p : Identifier) (start : Option Identifier) : Type 0 where
  pub members : List Identifier
  pub links : Links slot start members
  pub exact : (q : Identifier) → is_in members q ≡ names slot p q
  pub apart : AreApart members

-- each parent's chain starts where `firsts` says, a released parent has one, and each slot may follow its parent
pub record AreLinked (slots : List (Identifier × Slot)) (firsts : List (Identifier × Identifier)) (released : List Identifier) : Type 0 where
  pub chains : (p : Identifier) → IsChainOf (slot_in slots) p (first_in firsts p)
  pub needed : (p : Identifier) → is_in released p ≡ true → is_some (first_in firsts p) ≡ true
  pub formed : (q : Identifier) (s : Slot) → slot_in slots q ≡ Some s → MayFollow s.parent q

-- n more operations can be held, released and counted without taking memory
abbrev pub HasRoom : IndexMap Identifier Slot Keyed → IndexMap Identifier Identifier Keyed → index_set.IndexSet Identifier Keyed → index_set.IndexSet Identifier Keyed → ℕ → ℕ → Type 0
HasRoom slots firsts released erased queue n =
    (n ≤ spare slots) × (n ≤ spare firsts) × (n ≤ index_set.spare erased) × (length slots.entries + n ≤ queue)
    × (length firsts.entries + n ≤ length released.keys + index_set.spare released)

abbrev pub insertion_of : Identifier × Slot → OpView
insertion_of e = Insert e.0 e.1.parent e.1.ch

abbrev pub nodes_of : List (Identifier × Slot) → List (Identifier × Node)
nodes_of slots = each (λ e. (e.0, node_in e.1)) slots

-- the insertions in the slots
abbrev pub insertions_of : List (Identifier × Slot) → map.FinMap id_cmp Node
insertions_of slots = map.from_entries (nodes_of slots)

-- what is in the tables, released and erased, and how many more they have room for
abbrev pub waiting_of : List (Identifier × Slot) → List Identifier → List Identifier → ℕ → Waiting
waiting_of slots released erased room = record {
  held = record { ins = insertions_of slots; del = set.from_list erased };
  released = set.from_list released;
  listed = each insertion_of slots ++ each Erase erased;
  room = room;
}
