-- How the operations of a desk are parted: those in the tree, and those that wait.
use Rattle.std.specs.Prelude.{◌≡◌, ◌≤◌, ◌<◌, ◌+◌, Bool, true, false, ℕ, List, Some, None, take}
use Rattle.std.specs.FinMap as map
use Rattle.std.specs.FinSet as set
use Rattle.bg_types.specs.Identifier.{Identifier}
use Rattle.bg_types.specs.OperationSet.{Node, OperationSet, AllWellFormed, union, size, next}
use Rattle.bg_types.specs.declared.op.OpView.{OpView}
use Rattle.bg_types.specs.declared.op.OpView.TheVariants.{Insert, Erase}
use Rattle.rga_tree.specs.Tree.{stands_in}
use Rattle.rga_tree.specs.Elements.{with_element}
use Rattle.pending_ops.specs.Waiting.{Waiting, Releases, without_erasure}

-- no insertion is both placed and held, the parent of a ready one is there and that of another is not, and
-- a held deletion waits for what is not placed
pub record IsParted (t h : OperationSet) (ready : Identifier → Bool) : Type 0 where
  pub apart : (q : Identifier) → map.contains_key t.ins q ≡ true → map.get h.ins q ≡ None
  pub stands : (q : Identifier) (node : Node) → map.get h.ins q ≡ Some node → ready q ≡ true → stands_in t node.parent ≡ true
  pub waits : (q : Identifier) (node : Node) → map.get h.ins q ≡ Some node → ready q ≡ false → stands_in t node.parent ≡ false
  pub early : (q : Identifier) → map.contains_key t.ins q ≡ true → set.contains h.del q ≡ false

-- between two calls nothing is ready
pub record IsSettled (t : OperationSet) (w : Waiting) : Type 0 where
  pub parted : IsParted t w.held (λ _. false)
  pub none_released : w.released ≡ set.empty
  pub well_formed : AllWellFormed w.held

-- the numbers that a desk has of its set
pub record IsCounted (s : OperationSet) (kept greatest : ℕ) : Type 0 where
  pub kept_is : kept ≡ size s
  pub limited : kept ≤ 1_000_000
  pub next_is : next s ≡ greatest + 1

-- what a desk has: the operations in the tree and those that wait
abbrev pub whole : OperationSet → Waiting → OperationSet
whole t w = union t w.held

-- those that wait, in the order in which the store lists them
abbrev pub waiting_in : Waiting → List OpView
waiting_in w = take (size w.held) w.listed

-- an operation need not wait: its parent or its target is in the tree
abbrev pub reaches_in : OperationSet → OpView → Bool
reaches_in t (Insert id parent ch) = stands_in t parent
reaches_in t (Erase target) = map.contains_key t.ins target

-- an insertion may be placed in the tree
abbrev pub MayPlace : OperationSet → OpView → Type 0
MayPlace t (Insert id parent ch) = (stands_in t parent ≡ true) × (map.contains_key t.ins id ≡ false)
MayPlace t (Erase target) = ⊥

-- it is placed, hidden where its deletion waits, and what stands right after it is released
pub record PlacesIn (t : OperationSet) (w : Waiting) (e : Identifier × Node) (u : OperationSet) (v : Waiting) : Type 0 where
  pub rest : Waiting
  pub tree : u ≡ with_element t (record { id = e.0; parent = e.1.parent; ch = e.1.ch; hidden = set.contains w.held.del e.0 })
  pub held : rest.held ≡ without_erasure w.held e.0
  pub released : rest.released ≡ w.released
  pub room : rest.room ≡ w.room
  pub releases : Releases rest e.0 v

abbrev pub Places : OperationSet → Waiting → OpView → OperationSet → Waiting → Type 0
Places t w (Insert id parent ch) u v = PlacesIn t w (id, record { parent = parent; ch = ch }) u v
Places t w (Erase target) u v = ⊥

-- there is memory for n new operations, wherever they go, and for placing the insertions that wait: a sequence has room for
-- that many placings, and the store of early operations has room
pub record IsPaid (placings : ℕ) (w : Waiting) (n : ℕ) : Type 0 where
  pub placed : map.len w.held.ins + n ≤ placings
  pub held : n ≤ w.room

-- what is true of a desk of this site
pub record IsDesk (t : OperationSet) (placings : ℕ) (w : Waiting) (site kept greatest spare : ℕ) : Type 0 where
  pub settled : IsSettled t w
  pub counted : IsCounted (whole t w) kept greatest
  pub sited : 0 < site
  pub paid : IsPaid placings w spare
