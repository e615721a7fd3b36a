-- What typing and erasing at a place make of a desk's set.
use Rattle.std.specs.Prelude.{◌≡◌, ◌<◌, ◌≤◌, ◌^◌, ℕ, zero, suc, List, Some, insert, remove, slice_get}
use Rattle.std.specs.Option.{option_map_or}
use Rattle.bg_types.specs.Identifier.{Identifier}
use Rattle.bg_types.specs.OperationSet.{Node, OperationSet, with_operation, next, size}
use Rattle.bg_types.specs.declared.op.Place.{Place}
use Rattle.bg_types.specs.declared.op.Place.TheVariants.{Root, After}
use Rattle.bg_types.specs.declared.op.OpView.{OpView}
use Rattle.bg_types.specs.declared.op.OpView.TheVariants.{Insert, Erase}
use Rattle.rga_tree.specs.Walk.{walk}
use Rattle.rga_tree.specs.TextOf.{visible_ids, text}
use Rattle.desk_replica.specs.declared.answer.TypeFault.{TypeFault}
use Rattle.desk_replica.specs.declared.answer.TypeFault.TheVariants.{CounterSpent, Full, Memory}

-- the root at place 0, else the visible identifier before the place
abbrev pub parent_at : List Identifier → ℕ → Place
parent_at ids zero = Root
parent_at ids (suc k) = option_map_or After (slice_get ids k) Root

-- the insertion that a desk of this site with S makes where a character is typed at place k
abbrev pub typed : OperationSet → ℕ → ℕ → ℕ → Identifier × Node
typed s site k ch = (record { counter = next s; site = site }, record { parent = parent_at (visible_ids s) k; ch = ch })

abbrev pub insertion : Identifier × Node → OpView
insertion e = Insert e.0 e.1.parent e.1.ch

-- the walk is the old one with the insertion put in, and the text the old one with its character at place k
pub record IsTypedAt (s t : OperationSet) (k : ℕ) (e : Identifier × Node) : Type 0 where
  pub walk_is : (at : ℕ) × (walk t Root ≡ insert (walk s Root) at e)
  pub text_is : text t ≡ insert (text s) k e.1.ch

-- a desk with S makes no insertion: the next counter is spent, or else it has 1,000,000 operations. Lack of memory is of no
-- insertion
abbrev pub IsTypeRefusal : OperationSet → TypeFault → Type 0
IsTypeRefusal s CounterSpent = 2 ^ 32 ≤ next s
IsTypeRefusal s Full = (next s < 2 ^ 32) × (size s ≡ 1_000_000)
IsTypeRefusal s Memory = ⊥

-- the faults: those refusals, and lack of memory
abbrev pub IsTypeRefused : OperationSet → TypeFault → Type 0
IsTypeRefused s CounterSpent = IsTypeRefusal s CounterSpent
IsTypeRefused s Full = IsTypeRefusal s Full
IsTypeRefused s Memory = (next s < 2 ^ 32) × (size s < 1_000_000)

-- the operation deletes the visible identifier at place k; the text is the old one without that character, and the walk is
-- the old one
pub record IsErasedAt (s t : OperationSet) (k : ℕ) (op : OpView) : Type 0 where
  pub target : Identifier
  pub at : slice_get (visible_ids s) k ≡ Some target
  pub op_is : op ≡ Erase target
  pub set_is : t ≡ with_operation s op
  pub text_is : text t ≡ remove (text s) k
  pub walk_is : walk t Root ≡ walk s Root
