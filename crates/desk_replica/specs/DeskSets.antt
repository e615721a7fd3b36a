-- What desks have after a step, and which steps are refused: of the definition DeskSet.
use Rattle.std.specs.Prelude.{◌≡◌, ℕ, List, Result, map as each, replicate, slice_set, slice_index_or}
use Rattle.bg_types.specs.OperationSet.{OperationSet, no_operations, with_operation, union}
use Rattle.bg_types.specs.declared.op.OpView.{OpView}
use Rattle.desk_replica.specs.declared.answer.Taken.{Taken}
use Rattle.desk_replica.specs.declared.answer.TakeFault.{TakeFault}
use Rattle.desk_replica.specs.Desk.{Desk, fresh}
use Rattle.desk_replica.specs.Reply.{IsRefusal, IsTake}
use Rattle.desk_replica.specs.Merging.{IsMergeRefusal, IsMergeRefused, IsMerge}

-- ---- what desks have. Desks count from 0

abbrev pub sets_of : List Desk → List OperationSet
sets_of desks = each (λ d. d.set) desks

abbrev pub sites_of : List Desk → List ℕ
sites_of desks = each (λ d. d.site) desks

-- `count` desks that have nothing
abbrev pub empty_desks : ℕ → List OperationSet
empty_desks count = replicate count no_operations

abbrev pub set_at : List OperationSet → ℕ → OperationSet
set_at sets desk = slice_index_or sets desk no_operations

abbrev pub with_set : List OperationSet → ℕ → OperationSet → List OperationSet
with_set sets desk set = slice_set sets desk set

-- a desk takes an operation, or all that another one has
pub data DeskStep : Type 0 where
  takes : ℕ → OpView → DeskStep
  merges : ℕ → ℕ → DeskStep

abbrev pub sets_after_step : List OperationSet → DeskStep → List OperationSet
sets_after_step sets (takes desk op) = with_set sets desk (with_operation (set_at sets desk) op)
sets_after_step sets (merges desk from) = with_set sets desk (union (set_at sets desk) (set_at sets from))

-- ---- which steps are refused

abbrev pub IsStepRefused : List OperationSet → DeskStep → TakeFault → Type 0
IsStepRefused sets (takes desk op) fault = IsRefusal (set_at sets desk) op fault
IsStepRefused sets (merges desk from) fault = IsMergeRefusal (set_at sets desk) (set_at sets from) fault

-- a refused merge leaves the other desks as they were, and its own with a set that it may be left with
pub record LeavesMerged (old new : List OperationSet) (desk from : ℕ) (fault : TakeFault) : Type 0 where
  pub left : OperationSet
  pub new_is : new ≡ with_set old desk left
  pub refused : IsMergeRefused (set_at old desk) (set_at old from) left fault

-- ---- desks as wholes

abbrev pub desk_in : List Desk → ℕ → Desk
desk_in desks desk = slice_index_or desks desk (fresh 0)

-- one desk of a list took an operation, and the others are as they were
pub record IsTakeAt (old new : List Desk) (desk : ℕ) (op : OpView) (answer : Result Taken TakeFault) : Type 0 where
  pub after : Desk
  pub new_is : new ≡ slice_set old desk after
  pub take : IsTake (desk_in old desk) op after answer

-- one desk of a list met another one, and the others are as they were
pub record IsMergeAt (old new : List Desk) (desk from : ℕ) (answer : Result ℕ TakeFault) : Type 0 where
  pub after : Desk
  pub new_is : new ≡ slice_set old desk after
  pub merge : IsMerge (desk_in old desk) (desk_in old from) after answer
