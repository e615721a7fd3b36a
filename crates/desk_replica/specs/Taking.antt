-- Operations that a desk takes in order.
use Rattle.std.specs.Prelude.{◌≡◌, ◌<◌, ◌≤◌, ◌+◌, ℕ, List, [], ◌∷◌, All, length, take, slice_get, true, Some}
use Rattle.bg_types.specs.Identifier.{Identifier}
use Rattle.bg_types.specs.OperationSet.{OperationSet, with_operation, size}
use Rattle.bg_types.specs.WellFormed.{IsWellFormed}
use Rattle.bg_types.specs.declared.op.Place.{Place}
use Rattle.bg_types.specs.declared.op.OpView.{OpView}
use Rattle.bg_types.specs.declared.change.Change.{Change}
use Rattle.rga_tree.specs.Tree.{stands_in}
use Rattle.rga_tree.specs.Run.{insertions}
use Rattle.desk_replica.specs.Desk.{Desk}
use Rattle.desk_replica.specs.Merging.{with_operations}
use Rattle.desk_replica.specs.Reply.{IsRefused, IsRefusal}
use Rattle.desk_replica.specs.Telling.{IsTold, waiting_count}
use Rattle.desk_replica.specs.declared.answer.TakeFault.{TakeFault}
use Rattle.desk_replica.specs.declared.answer.TakeFault.TheVariants.{Memory}

-- a desk with S refuses none of the first operations of a list that it takes in order
abbrev pub AreAccepted : OperationSet → List OpView → ℕ → Type 0
AreAccepted s ops count = (k : ℕ) (op : OpView) (fault : TakeFault) → k < count → slice_get ops k ≡ Some op → ¬ (IsRefusal (with_operations s (take k ops)) op fault)

-- a desk took the first operations of a list, so many, one after the other
pub record AreTaken (old : Desk) (ops : List OpView) (taken : ℕ) (new : Desk) : Type 0 where
  pub within : taken ≤ length ops
  pub set : new.set ≡ with_operations old.set (take taken ops)
  pub accepted : AreAccepted old.set ops taken
  pub site : new.site ≡ old.site
  pub spare : size old.set + old.spare ≤ size new.set + new.spare
  pub none : taken ≡ 0 → new ≡ old

-- a desk that took so many refuses the next one. Where an operation is spare it is not lack of memory
pub record IsRefusedNext (desk : Desk) (ops : List OpView) (taken : ℕ) (fault : TakeFault) : Type 0 where
  pub op : OpView
  pub next : slice_get ops taken ≡ Some op
  pub refused : IsRefused desk.set op fault
  pub unpaid : fault ≡ Memory → desk.spare ≡ 0

-- the first operations of a list, so many, are insertions that one site typed in one go, the first one under the counter behind
-- the greatest, below what is placed in the tree
pub record IsRunInFront (t : OperationSet) (greatest : ℕ) (ops : List OpView) (count : ℕ) : Type 0 where
  pub first : Identifier
  pub parent : Place
  pub characters : List ℕ
  pub many : length characters ≡ count
  pub typed : take count ops ≡ insertions first parent characters
  pub next : first.counter ≡ greatest + 1
  pub stands : stands_in t parent ≡ true
  pub well_formed : All IsWellFormed (take count ops)

-- the list has grown by what is told of operations that a desk with S takes one after the other
abbrev pub AreTold : OperationSet → List OpView → (old new : List Change) → Type 0
AreTold s [] old new = new ≡ old
AreTold s (op ∷ ops) old new = (more : List Change) × IsTold s (with_operation s op) old more × AreTold (with_operation s op) ops more new

-- so many operations are spare, and a list of so many changes has room for what they may tell: one each, and one for each
-- insertion that waits
pub record IsListPaid (desk : Desk) (count told capacity : ℕ) : Type 0 where
  pub spare : count ≤ desk.spare
  pub room : told + count + waiting_count desk.set ≤ capacity
