-- What the steps of a run do to its desks, and which step is refused first. Desks, files and the operations of a file count
-- from 1.
use Rattle.std.specs.Prelude.{◌≡◌, ◌-◌, ℕ, List, [], ◌∷◌, ◌++◌, Option, Some, None, option_map, slice_get}
use Rattle.bg_types.specs.OperationSet.{OperationSet}
use Rattle.bg_types.specs.declared.op.OpView.{OpView}
use Rattle.desk_replica.specs.declared.answer.TakeFault.{TakeFault}
use Rattle.desk_replica.specs.DeskSets.{DeskStep, takes, merges, sets_after_step as sets_after_desk_step, IsStepRefused as IsDeskStepRefused}
use Rattle.desk_files.specs.declared.schedule.step.RunStep.{RunStep}
use Rattle.desk_files.specs.declared.schedule.step.RunStep.TheVariants.{Take, Merge, Show}
use Rattle.desk_files.specs.declared.schedule.step.Numbered.{Numbered}
use Rattle.desk_files.specs.Schedule.{file_at}

-- ---- what a step does to the desks

-- a step with the number of its line
abbrev pub at_line : ℕ → RunStep → Numbered
at_line line step = record { line = line; step = step }

-- operation number op of a file
abbrev pub operation_at : List (List OpView) → ℕ → ℕ → Option OpView
operation_at files file op = slice_get (file_at files file) (op - 1)

-- what a step does to the desks; a show does nothing
abbrev pub desk_step : List (List OpView) → RunStep → Option DeskStep
desk_step files (Take desk file op) = option_map (takes (desk - 1)) (operation_at files file op)
desk_step files (Merge desk from) = Some (merges (desk - 1) (from - 1))
desk_step files (Show desk) = None

abbrev pub sets_after_done : List OperationSet → Option DeskStep → List OperationSet
sets_after_done sets None = sets
sets_after_done sets (Some done) = sets_after_desk_step sets done

-- the desks' sets after a step
abbrev pub sets_after_step : List (List OpView) → List OperationSet → RunStep → List OperationSet
sets_after_step files sets step = sets_after_done sets (desk_step files step)

-- the desks' sets after the steps
abbrev pub sets_after : List (List OpView) → List OperationSet → List Numbered → List OperationSet
sets_after files sets [] = sets
sets_after files sets (s ∷ steps) = sets_after files (sets_after_step files sets s.step) steps

-- ---- which steps are refused

abbrev pub IsDoneRefused : List OperationSet → Option DeskStep → TakeFault → Type 0
IsDoneRefused sets None fault = ⊥
IsDoneRefused sets (Some done) fault = IsDeskStepRefused sets done fault

abbrev pub IsStepRefused : List (List OpView) → List OperationSet → RunStep → TakeFault → Type 0
IsStepRefused files sets step fault = IsDoneRefused sets (desk_step files step) fault

-- no step is refused
abbrev pub NoneRefused : List (List OpView) → List OperationSet → List Numbered → Type 0
NoneRefused files sets [] = Unit {0}
NoneRefused files sets (s ∷ steps) =
    ((fault : TakeFault) → ¬ (IsStepRefused files sets s.step fault)) × NoneRefused files (sets_after_step files sets s.step) steps

-- the desk that does a step
abbrev pub desk_of : RunStep → ℕ
desk_of (Take desk file op) = desk
desk_of (Merge desk from) = desk
desk_of (Show desk) = desk

-- a step is the first refused one: the number of its line, its desk, and why
pub record FirstRefused (files : List (List OpView)) (sets : List OperationSet) (steps : List Numbered) (line desk : ℕ) (fault : TakeFault) : Type 0 where
  pub before : List Numbered
  pub at : Numbered
  pub later : List Numbered
  pub in_order : steps ≡ before ++ at ∷ later
  pub line_is : line ≡ at.line
  pub desk_is : desk ≡ desk_of at.step
  pub none_refused : NoneRefused files sets before
  pub refused : IsStepRefused files (sets_after files sets before) at.step fault
