-- What a run of `replay` is given, and what it writes and answers: the headline.
use Rattle.std.specs.Prelude.{◌≡◌, ◌⊎◌, ◌↔◌, true, false, Bool, ℕ, List, length, Option, Some, None, Result, Ok, Err, MatchResult}
use Rattle.std.specs.List.{AllZip}
use Rattle.std.specs.Io.KnownBytes.{Appends}
use Rattle.bg_types.specs.declared.class.Base.{Base}
use Rattle.bg_types.specs.declared.op.OpView.{OpView}
use Rattle.op_codec.specs.declared.fault.CodecFault.TheVariants as codec
use Rattle.desk_replica.specs.declared.answer.TakeFault.{TakeFault}
use Rattle.ucd_files.specs.declared.fault.UcdFault.{UcdFault}
use Rattle.ucd_files.specs.Tables.{TableValues}
use Rattle.ucd_files.specs.Ucd.{tables_of_ucd, fault_of_ucd}
use Rattle.ucd_files.specs.declared.files.Ucd.{Ucd}
use Rattle.desk_files.specs.declared.schedule_fault.ScheduleFault.{ScheduleFault}
use Rattle.desk_files.specs.declared.run_fault.RunFault.{RunFault}
use Rattle.desk_files.specs.declared.run_fault.RunFault.TheVariants.{Tables, File, Schedule, Step, Listing, Device, PastEnd, ReadFailed, Memory, TooLong}
use Rattle.desk_files.specs.declared.schedule.step.Numbered.{Numbered}
use Rattle.desk_files.specs.Reading.{IsReadAs, Flaw, malformed, too_long, flaw_fault}
use Rattle.desk_files.specs.Readers.{IsRunOver}
use Rattle.desk_files.specs.Files.{IsFaultyFile}
use Rattle.desk_files.specs.Schedule.{Schedules, IsFaultyStep}
use Rattle.desk_runs.specs.Round.{round}
use Rattle.desk_replica.specs.DeskSets.{empty_desks}
use Rattle.desk_runs.specs.Steps.{NoneRefused, FirstRefused}
use Rattle.desk_runs.specs.Shows.{shows, IsStepsEnd}
use Rattle.desk_files.specs.Written.{IsSilent}
use Rattle.desk_runs.specs.Printed.{printed}

-- ---- the data of a run

-- what a run is given: the first fault of its data files, if any, what they say of each code point, the width in columns,
-- the base direction, the bytes of the operation files, and those of a schedule, if any
pub record Given : Type 0 where
  pub fault : Option UcdFault
  pub tables : TableValues
  pub width : ℕ
  pub base : Base
  pub files : List (List ℕ)
  pub schedule : Option (List ℕ)

abbrev pub given : Ucd → ℕ → Base → List (List ℕ) → Option (List ℕ) → Given
given ucd width base files schedule = record {
  fault = fault_of_ucd ucd;
  tables = tables_of_ucd ucd;
  width = width;
  base = base;
  files = files;
  schedule = schedule;
}

-- what a text is drawn as
abbrev pub print_of : Given → List ℕ → List ℕ
print_of g = printed g.tables g.width g.base

-- the steps of a run: those of its schedule, or without one all desks take all files, and are shown
abbrev pub IsPlan : List (List OpView) → Option (List ℕ) → List Numbered → Type 0
IsPlan files None steps = steps ≡ round files
IsPlan files (Some bytes) steps = Schedules files bytes steps

-- this line of the schedule is the first faulty one
abbrev pub IsFaultyPlan : List (List OpView) → Option (List ℕ) → (line : ℕ) → ScheduleFault → Type 0
IsFaultyPlan files None line fault = ⊥
IsFaultyPlan files (Some bytes) line fault = IsFaultyStep files bytes line fault

-- the tables and the files are right, and this line of the schedule is the first faulty one
pub record IsFaultySchedule (g : Given) (line : ℕ) (fault : ScheduleFault) : Type 0 where
  pub files : List (List OpView)
  pub tables : g.fault ≡ None
  pub spelled : AllZip IsReadAs g.files files
  pub shown : IsFaultyPlan files g.schedule line fault

-- nothing that is read before the first step is faulty
pub record IsReady (g : Given) (files : List (List OpView)) (steps : List Numbered) : Type 0 where
  pub tables : g.fault ≡ None
  pub spelled : AllZip IsReadAs g.files files
  pub planned : IsPlan files g.schedule steps

-- no step of the run is refused
pub record IsUnrefused (g : Given) (files : List (List OpView)) (steps : List Numbered) : Type 0 where
  pub ready : IsReady g files steps
  pub none_refused : NoneRefused files (empty_desks (length files)) steps

-- a step of the run is the first refused one
pub record IsRefused (g : Given) (line desk : ℕ) (fault : TakeFault) : Type 0 where
  pub files : List (List OpView)
  pub steps : List Numbered
  pub ready : IsReady g files steps
  pub first : FirstRefused files (empty_desks (length files)) steps line desk fault

-- for each show D in order, the print of the grid of the text of the set that desk D has after the steps before it
abbrev pub shows_of : Given → List (List OpView) → List Numbered → List ℕ
shows_of g files steps = shows (print_of g) files (empty_desks (length files)) steps

-- ---- the outcome

-- the written bytes grew by the shows, and by nothing else; no step is refused
pub record WritesShows (g : Given) (old new : Option (List ℕ)) : Type 0 where
  pub files : List (List OpView)
  pub steps : List Numbered
  pub unrefused : IsUnrefused g files steps
  pub written : Appends old new (shows_of g files steps)

-- all is read, and the steps end with this fault
pub record EndsInSteps (g : Given) (old new : Option (List ℕ)) (failed : Bool) (fault : RunFault) : Type 0 where
  pub files : List (List OpView)
  pub steps : List Numbered
  pub ready : IsReady g files steps
  pub end : IsStepsEnd (print_of g) files (empty_desks (length files)) steps old new failed fault

-- what is read before the first step is not right, or memory ran out: the first fault of the tables, else of the files, else
-- of the schedule
abbrev pub IsUnread : Given → RunFault → Type 0
IsUnread g (Tables fault) = g.fault ≡ Some fault
IsUnread g (File n (codec.Malformed frame cause)) = (g.fault ≡ None) × IsFaultyFile g.files n (malformed frame cause)
IsUnread g (File n codec.Memory) = ⊥
IsUnread g (Schedule line fault) = IsFaultySchedule g line fault
IsUnread g (Step line desk fault) = ⊥
IsUnread g (Listing line fault) = ⊥
IsUnread g (PastEnd place) = ⊥
IsUnread g Device = ⊥
IsUnread g (ReadFailed file) = ⊥
IsUnread g (TooLong n) = (g.fault ≡ None) × IsFaultyFile g.files n too_long
IsUnread g Memory = Unit {0}

-- the outcome of a run, by its answer: all shows are written; or nothing, where not all can be read; or what was shown before
-- the steps ended, by a refused step, a failed write or lack of memory
abbrev pub IsReplayOutcome : Given → (old new : Option (List ℕ)) (failed : Bool) → Result (Unit {0}) RunFault → Type 0
IsReplayOutcome g old new failed (Ok done) = (failed ≡ false) × WritesShows g old new
IsReplayOutcome g old new failed (Err fault) = (IsUnread g fault × IsSilent old new failed) ⊎ EndsInSteps g old new failed fault

-- nothing is written, and the data files are right, which come first, whatever the operation files are
abbrev pub IsCut : (List (List ℕ) → Given) → (old new : Option (List ℕ)) (failed : Bool) → Type 0
IsCut gives old new failed = IsSilent old new failed × ((files : List (List ℕ)) → (gives files).fault ≡ None)

-- the outcome of a run over readers, by what is still to come of each, what it has left, and which have failed, where a run
-- over the files that they give is given this
abbrev pub IsReplayOutcomeOver : (readers left : List (Option (List ℕ))) (lost : List Bool) → (List (List ℕ) → Given) → (old new : Option (List ℕ)) (failed : Bool) → Result (Unit {0}) RunFault → Type 0
IsReplayOutcomeOver readers left lost gives old new failed result = IsRunOver readers left lost (IsCut gives old new failed) (λ files. IsReplayOutcome (gives files) old new failed) result

-- which answer the data has, unless memory runs out, or a write of a show before it fails
pub record IsReplayDecided (g : Given) (old new : Option (List ℕ)) (failed : Bool) (result : Result (Unit {0}) RunFault) : Type 0 where
  pub device : (failed ≡ true) ↔ (result ≡ Err Device)
  pub shown : (lists : List (List OpView)) (steps : List Numbered) → IsUnrefused g lists steps
      → MatchResult result (λ _. Appends old new (shows_of g lists steps)) (λ fault. (fault ≡ Device) ⊎ (fault ≡ Memory))
  pub tables : (fault : UcdFault) → g.fault ≡ Some fault → (result ≡ Err (Tables fault)) ⊎ (result ≡ Err Memory)
  pub faulty : (n : ℕ) (flaw : Flaw) → g.fault ≡ None → IsFaultyFile g.files n flaw → (result ≡ Err (flaw_fault n flaw)) ⊎ (result ≡ Err Memory)
  pub schedule : (line : ℕ) (fault : ScheduleFault) → IsFaultySchedule g line fault → (result ≡ Err (Schedule line fault)) ⊎ (result ≡ Err Memory)
  pub refused : (line desk : ℕ) (fault : TakeFault) → IsRefused g line desk fault
      → (result ≡ Err (Step line desk fault)) ⊎ (result ≡ Err Device) ⊎ (result ≡ Err Memory)

-- ---- the outcome over operations that are read

-- all steps of such a plan are done, none refused, and their shows are written
pub record PlanRan (print : List ℕ → List ℕ) (files : List (List OpView)) (schedule : Option (List ℕ)) (old new : Option (List ℕ)) : Type 0 where
  pub steps : List Numbered
  pub planned : IsPlan files schedule steps
  pub none_refused : NoneRefused files (empty_desks (length files)) steps
  pub written : Appends old new (shows print files (empty_desks (length files)) steps)

-- the steps end with this fault
pub record PlanEnds (print : List ℕ → List ℕ) (files : List (List OpView)) (schedule : Option (List ℕ)) (old new : Option (List ℕ)) (failed : Bool) (fault : RunFault) : Type 0 where
  pub steps : List Numbered
  pub planned : IsPlan files schedule steps
  pub end : IsStepsEnd print files (empty_desks (length files)) steps old new failed fault

-- a line of the schedule is faulty, or memory ran out
abbrev pub IsUnplanned : List (List OpView) → Option (List ℕ) → RunFault → Type 0
IsUnplanned files schedule (Tables fault) = ⊥
IsUnplanned files schedule (File n fault) = ⊥
IsUnplanned files schedule (Schedule line fault) = IsFaultyPlan files schedule line fault
IsUnplanned files schedule (Step line desk fault) = ⊥
IsUnplanned files schedule (Listing line fault) = ⊥
IsUnplanned files schedule (PastEnd place) = ⊥
IsUnplanned files schedule Device = ⊥
IsUnplanned files schedule (ReadFailed file) = ⊥
IsUnplanned files schedule (TooLong file) = ⊥
IsUnplanned files schedule Memory = Unit {0}

abbrev pub IsPlanOutcome : (print : List ℕ → List ℕ) (files : List (List OpView)) (schedule : Option (List ℕ)) (old new : Option (List ℕ)) (failed : Bool) → Result (Unit {0}) RunFault → Type 0
IsPlanOutcome print files schedule old new failed (Ok done) = (failed ≡ false) × PlanRan print files schedule old new
IsPlanOutcome print files schedule old new failed (Err fault) = (IsUnplanned files schedule fault × IsSilent old new failed) ⊎ PlanEnds print files schedule old new failed fault
