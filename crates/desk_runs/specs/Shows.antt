-- What the shows of a list of steps write, and what is written where the steps end early.
use Rattle.std.specs.Prelude.{◌≡◌, ◌-◌, true, false, Bool, ℕ, List, [], ◌∷◌, ◌++◌, Option, Result, Ok, Err}
use Rattle.std.specs.Io.KnownBytes.{Appends}
use Rattle.bg_types.specs.OperationSet.{OperationSet}
use Rattle.bg_types.specs.Sink.{AppendsBeginning}
use Rattle.bg_types.specs.declared.op.OpView.{OpView}
use Rattle.rga_tree.specs.TextOf.{text}
use Rattle.desk_replica.specs.declared.answer.TakeFault.{TakeFault}
use Rattle.desk_files.specs.declared.run_fault.RunFault.{RunFault}
use Rattle.desk_files.specs.declared.run_fault.RunFault.TheVariants.{Tables, File, Schedule, Step as Refused, Listing, Device, PastEnd, ReadFailed, Memory, TooLong}
use Rattle.desk_files.specs.declared.schedule.step.RunStep.{RunStep}
use Rattle.desk_files.specs.declared.schedule.step.RunStep.TheVariants.{Take, Merge, Show}
use Rattle.desk_files.specs.declared.schedule.step.Numbered.{Numbered}
use Rattle.desk_replica.specs.DeskSets.{set_at}
use Rattle.desk_runs.specs.Steps.{sets_after_step, sets_after, NoneRefused, FirstRefused}

-- ---- what is written. A text is printed by a function of its characters

-- what a step writes: a show the print of its desk's text
abbrev pub shown : (List ℕ → List ℕ) → List OperationSet → RunStep → List ℕ
shown print sets (Take desk file op) = []
shown print sets (Merge desk from) = []
shown print sets (Show desk) = print (text (set_at sets (desk - 1)))

-- what the steps write: for each show, in order, the print of the text of the set that its desk has after the steps
-- before it
abbrev pub shows : (List ℕ → List ℕ) → List (List OpView) → List OperationSet → List Numbered → List ℕ
shows print files sets [] = []
shows print files sets (s ∷ steps) = shown print sets s.step ++ shows print files (sets_after_step files sets s.step) steps

-- ---- how far a run got: from the desks' sets and the written bytes before the steps to those after them

-- all steps are done, and their shows are written
pub record Ran (print : List ℕ → List ℕ) (files : List (List OpView)) (sets : List OperationSet) (steps : List Numbered) (after : List OperationSet) (old new : Option (List ℕ)) : Type 0 where
  pub none_refused : NoneRefused files sets steps
  pub sets_are : after ≡ sets_after files sets steps
  pub written : Appends old new (shows print files sets steps)

-- some steps at the front are done, and exactly their shows are written
pub record RanInPart (print : List ℕ → List ℕ) (files : List (List OpView)) (sets : List OperationSet) (steps : List Numbered) (old new : Option (List ℕ)) : Type 0 where
  pub before : List Numbered
  pub later : List Numbered
  pub in_order : steps ≡ before ++ later
  pub none_refused : NoneRefused files sets before
  pub written : Appends old new (shows print files sets before)

-- a step is the first refused one, and exactly the shows before it are written
pub record RanToRefusal (print : List ℕ → List ℕ) (files : List (List OpView)) (sets : List OperationSet) (steps : List Numbered) (line desk : ℕ) (fault : TakeFault) (old new : Option (List ℕ)) : Type 0 where
  pub first : FirstRefused files sets steps line desk fault
  pub written : Appends old new (shows print files sets first.before)

-- some steps at the front are reached, none refused, and a beginning of their shows is written
pub record RanToFailure (print : List ℕ → List ℕ) (files : List (List OpView)) (sets : List OperationSet) (steps : List Numbered) (old new : Option (List ℕ)) : Type 0 where
  pub before : List Numbered
  pub later : List Numbered
  pub in_order : steps ≡ before ++ later
  pub none_refused : NoneRefused files sets before
  pub written : AppendsBeginning old new (shows print files sets before)

-- the steps ended with this fault, which comes only where its cause is present: a refused step, a failed write, or want of
-- memory
abbrev pub IsStepsEnd : (print : List ℕ → List ℕ) (files : List (List OpView)) (sets : List OperationSet) (steps : List Numbered) (old new : Option (List ℕ)) (failed : Bool) → RunFault → Type 0
IsStepsEnd print files sets steps old new failed (Tables fault) = ⊥
IsStepsEnd print files sets steps old new failed (File n fault) = ⊥
IsStepsEnd print files sets steps old new failed (Schedule line fault) = ⊥
IsStepsEnd print files sets steps old new failed (Refused line desk fault) = (failed ≡ false) × RanToRefusal print files sets steps line desk fault old new
IsStepsEnd print files sets steps old new failed (Listing line fault) = ⊥
IsStepsEnd print files sets steps old new failed Device = (failed ≡ true) × RanToFailure print files sets steps old new
IsStepsEnd print files sets steps old new failed (PastEnd place) = ⊥
IsStepsEnd print files sets steps old new failed (ReadFailed file) = ⊥
IsStepsEnd print files sets steps old new failed (TooLong file) = ⊥
IsStepsEnd print files sets steps old new failed Memory = (failed ≡ false) × RanInPart print files sets steps old new

-- the outcome of steps: all are done, after which desks have these sets, or they ended with a fault
abbrev pub IsStepsOutcome : (print : List ℕ → List ℕ) (files : List (List OpView)) (sets : List OperationSet) (steps : List Numbered) (after : List OperationSet) (old new : Option (List ℕ)) (failed : Bool)
    → Result (Unit {0}) RunFault → Type 0
IsStepsOutcome print files sets steps after old new failed (Ok done) = (failed ≡ false) × Ran print files sets steps after old new
IsStepsOutcome print files sets steps after old new failed (Err fault) = IsStepsEnd print files sets steps old new failed fault

-- the outcome of a show of these bytes: they are written, or a beginning of them before a failed write, or nothing for want
-- of memory
abbrev pub IsShowOutcome : (bytes : List ℕ) (old new : Option (List ℕ)) (failed : Bool) → Result (Unit {0}) RunFault → Type 0
IsShowOutcome bytes old new failed (Ok done) = (failed ≡ false) × Appends old new bytes
IsShowOutcome bytes old new failed (Err (Tables fault)) = ⊥
IsShowOutcome bytes old new failed (Err (File n fault)) = ⊥
IsShowOutcome bytes old new failed (Err (Schedule line fault)) = ⊥
IsShowOutcome bytes old new failed (Err (Refused line desk fault)) = ⊥
IsShowOutcome bytes old new failed (Err (Listing line fault)) = ⊥
IsShowOutcome bytes old new failed (Err Device) = (failed ≡ true) × AppendsBeginning old new bytes
IsShowOutcome bytes old new failed (Err (PastEnd place)) = ⊥
IsShowOutcome bytes old new failed (Err (ReadFailed file)) = ⊥
IsShowOutcome bytes old new failed (Err (TooLong file)) = ⊥
IsShowOutcome bytes old new failed (Err Memory) = (failed ≡ false) × Appends old new []
