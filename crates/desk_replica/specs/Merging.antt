-- What a merge takes, and what one that ends early leaves.
use Rattle.std.specs.Prelude.{◌≡◌, ◌≢◌, ◌⊎◌, ◌<◌, ◌≤◌, ◌+◌, ◌-◌, ℕ, Bool, true, false, Option, Some, List, Contains, Result, OnOk, IfOk, IfErr, IsOk}
use Rattle.std.specs.FinMap as map
use Rattle.std.specs.FinSet as set
use Rattle.bg_types.specs.Identifier.{Identifier}
use Rattle.bg_types.specs.OperationSet.{Node, OperationSet, Holds, Agree, ReusesIdentifier, union, size}
use Rattle.bg_types.specs.declared.op.OpView.{OpView}
use Rattle.bg_types.specs.declared.op.OpView.TheVariants.{Insert, Erase}
use Rattle.bg_types.specs.declared.change.Change.{Change}
use Rattle.rga_tree.specs.declared.element.Element.{Element}
use Rattle.rga_tree.specs.Parts.{IsPartOf}
pub use Rattle.rga_tree.specs.Run.{with_operations}
use Rattle.desk_replica.specs.Desk.{Desk, insertion_of}
use Rattle.desk_replica.specs.Telling.{IsUntaken, waiting_count}
use Rattle.desk_replica.specs.Listening.{HasRoom, told_count}
use Rattle.desk_replica.specs.declared.answer.TakeFault.{TakeFault}
use Rattle.desk_replica.specs.declared.answer.TakeFault.TheVariants.{IdentifierReused, Full, Memory}

abbrev pub is_deletion : OpView → Bool
is_deletion (Insert id parent ch) = false
is_deletion (Erase target) = true

-- u has what S has, and of the rest only operations of the list
pub record IsGrownBy (s : OperationSet) (ops : List OpView) (u : OperationSet) : Type 0 where
  pub keeps : IsPartOf s u
  pub of_list : (op : OpView) → Holds u op → Holds s op ⊎ Contains ops op

-- a desk took operations of the list
pub record IsGrown (old : Desk) (ops : List OpView) (new : Desk) : Type 0 where
  pub grown : IsGrownBy old.set ops new.set
  pub site : new.site ≡ old.site
  pub spare : size old.set + old.spare ≤ size new.set + new.spare

-- a desk is `new` now, and refused an operation of the list with the fault. Lack of memory comes where no operation was
-- spare, or where there was no room for what was told and for one change more and one for each insertion that waits
pub record IsStopped (ops : List OpView) (new : Desk) (told more : Option (List Change)) (capacity : ℕ) (fault : TakeFault) : Type 0 where
  pub op : OpView
  pub listed : Contains ops op
  pub refused : IsUntaken new.set op fault
  pub unpaid : fault ≡ Memory → (new.spare ≡ 0) ⊎ (¬ (HasRoom told capacity (told_count more - told_count told + waiting_count new.set + 1)))

-- an element that is hidden has its deletion in u, if its insertion is there
abbrev pub IsErasedIn : OperationSet → Element → Type 0
IsErasedIn u e = e.hidden ≡ true → map.contains_key u.ins e.id ≡ true → set.contains u.del e.id ≡ true

-- the insertion of an element reuses an identifier of S
abbrev pub ReusesIn : OperationSet → List Element → Type 0
ReusesIn s row = (e : Element) × Contains row e × ReusesIdentifier s (insertion_of e)

-- an identifier is in both, with another parent or character
pub record Disagree (s t : OperationSet) : Type 0 where
  pub id : Identifier
  pub one : Node
  pub other : Node
  pub in_s : map.get s.ins id ≡ Some one
  pub in_t : map.get t.ins id ≡ Some other
  pub differ : one ≢ other

-- u has what s has, and no more than s and t have together
pub record IsBetween (s t u : OperationSet) : Type 0 where
  pub keeps : (op : OpView) → Holds s op → Holds u op
  pub of_both : (op : OpView) → Holds u op → Holds s op ⊎ Holds t op

-- S refuses to meet t: an identifier is in both, with another parent or character; or the union has more than
-- 1,000,000 operations. Lack of memory is no refusal of a merge
abbrev pub IsMergeRefusal : OperationSet → OperationSet → TakeFault → Type 0
IsMergeRefusal s t IdentifierReused = Disagree s t
IsMergeRefusal s t Full = Agree s t × (1_000_000 < size (union s t))
IsMergeRefusal s t Memory = ⊥

-- s met t, ended with the fault, and is u now. Lack of memory leaves out an operation of t
abbrev pub IsMergeRefused : OperationSet → OperationSet → OperationSet → TakeFault → Type 0
IsMergeRefused s t u IdentifierReused = IsMergeRefusal s t IdentifierReused × (u ≡ s)
IsMergeRefused s t u Full = IsMergeRefusal s t Full × IsBetween s t u × (size u ≡ 1_000_000)
IsMergeRefused s t u Memory = Agree s t × IsBetween s t u × (size u < 1_000_000) × ((op : OpView) × (Holds t op × (¬ (Holds u op))))

-- a desk met another one, answered, and is after now
pub record IsMerge (desk other after : Desk) (answer : Result ℕ TakeFault) : Type 0 where
  pub ok : OnOk answer (after.set ≡ union desk.set other.set)
  pub count : IfOk answer (λ n. size after.set ≡ size desk.set + n)
  pub accepted : OnOk answer ((fault : TakeFault) → ¬ (IsMergeRefusal desk.set other.set fault))
  pub fault : IfErr answer (IsMergeRefused desk.set other.set after.set)
  pub reused : IfErr answer (λ fault. fault ≡ IdentifierReused → after ≡ desk)
  pub nothing_new : ((op : OpView) → Holds other.set op → Holds desk.set op) → IsOk answer
  pub site : after.site ≡ desk.site
  pub spare : size desk.set + desk.spare ≤ size after.set + after.spare
  pub unpaid : IfErr answer (λ fault. fault ≡ Memory → desk.spare < size other.set)
