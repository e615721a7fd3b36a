-- What is held: the part of DeskSet about operations that wait.
use Rattle.std.specs.Prelude.{◌≡◌, ◌&&◌, ◌||◌, ◌↔◌, Bool, true, false, not, ℕ, List, [], Some, None, length, slice_get}
use Rattle.std.specs.Option.{option_map_or}
use Rattle.std.specs.FinMap as map
use Rattle.std.specs.FinSet as set
use Rattle.bg_types.specs.Identifier.{Identifier, id_cmp, same_id}
use Rattle.bg_types.specs.OperationSet.{OperationSet, Node, Holds, no_operations, size}
use Rattle.bg_types.specs.declared.op.Place.{Place}
use Rattle.bg_types.specs.declared.op.Place.TheVariants.{Root, After}
use Rattle.bg_types.specs.declared.op.OpView.{OpView}
use Rattle.bg_types.specs.declared.op.OpView.TheVariants.{Insert, Erase}

-- held: the operations that wait. released: the identifiers whose followers need not wait any more.
-- listed: the operations that wait, in some order. room: how many more can be held without taking memory
pub record Waiting : Type 0 where
  pub held : OperationSet
  pub released : set.FinSet id_cmp
  pub listed : List OpView
  pub room : ℕ

abbrev pub nothing_waits : Waiting
nothing_waits = record { held = no_operations; released = set.empty; listed = []; room = 0 }

-- neither the operation nor another insertion of its identifier is held
abbrev pub IsNew : OperationSet → OpView → Type 0
IsNew s (Insert id parent ch) = map.get s.ins id ≡ None
IsNew s (Erase target) = set.contains s.del target ≡ false

abbrev pub is_after : Place → Identifier → Bool
is_after Root p = false
is_after (After parent) p = same_id parent p

-- an insertion of S has the identifier q and stands right after p
abbrev pub follows : OperationSet → Identifier → Identifier → Bool
follows s p q = option_map_or (λ node. is_after node.parent p) (map.get s.ins q) false

abbrev pub is_released : Waiting → Place → Bool
is_released w Root = false
is_released w (After parent) = set.contains w.released parent

-- a held insertion has the identifier q and stands right after a released identifier
abbrev pub is_ready : Waiting → Identifier → Bool
is_ready w q = option_map_or (λ node. is_released w node.parent) (map.get w.held.ins q) false

abbrev pub NoneReady : Waiting → Type 0
NoneReady w = (q : Identifier) → is_ready w q ≡ false

-- the insertions right after this identifier are ready, besides those that were
pub record Releases (old : Waiting) (id : Identifier) (new : Waiting) : Type 0 where
  pub held : new.held ≡ old.held
  pub listed : new.listed ≡ old.listed
  pub room : new.room ≡ old.room
  pub ready : (q : Identifier) → is_ready new q ≡ (is_ready old q || follows old.held id q)
  -- an identifier is released only where an insertion right after it is held
  pub needed : (p : Identifier) → set.contains new.released p ≡ true → (q : Identifier) × (follows new.held p q ≡ true)

abbrev pub without : OperationSet → Identifier → OperationSet
without s id = record s { ins = map.remove s.ins id }

-- a ready insertion is no longer held, and the others stay as they were
pub record HandsOut (old : Waiting) (id : Identifier) (node : Node) (new : Waiting) : Type 0 where
  pub was_held : map.get old.held.ins id ≡ Some node
  pub was_ready : is_ready old id ≡ true
  pub held : new.held ≡ without old.held id
  pub room : new.room ≡ old.room
  pub ready : (q : Identifier) → is_ready new q ≡ (not (same_id q id) && is_ready old q)
  pub needed : (p : Identifier) → set.contains new.released p ≡ true → (q : Identifier) × (follows new.held p q ≡ true)

abbrev pub TakesOut : Waiting → OpView → Waiting → Type 0
TakesOut old (Insert id parent ch) new = HandsOut old id (record { parent = parent; ch = ch }) new
TakesOut old (Erase target) new = ⊥

-- the list has each operation of S once, and no other
pub record ListsOnce (s : OperationSet) (ops : List OpView) : Type 0 where
  pub each : (op : OpView) → Holds s op ↔ ((j : ℕ) × (slice_get ops j ≡ Some op))
  pub once : (i j : ℕ) (op : OpView) → slice_get ops i ≡ Some op → slice_get ops j ≡ Some op → i ≡ j
  pub all : length ops ≡ size s

abbrev pub without_erasure : OperationSet → Identifier → OperationSet
without_erasure s id = record s { del = set.remove s.del id }
