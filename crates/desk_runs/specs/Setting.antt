-- What the steps of a run are given.
use Rattle.std.specs.Prelude.{◌≡◌, false, Bool, ℕ, List, length, Option, Result}
use Rattle.bg_types.specs.declared.op.OpView.{OpView}
use Rattle.desk_replica.specs.Desk.{Desk}
use Rattle.desk_replica.specs.DeskSets.{sets_of}
use Rattle.view_cache.specs.Drawings.{KeptView}
use Rattle.desk_files.specs.Files.{lists_of}
use Rattle.desk_files.specs.declared.run_fault.RunFault.{RunFault}
use Rattle.desk_runs.specs.declared.replaying.setting.Setting.{Setting}
use Rattle.desk_files.specs.declared.schedule.step.Numbered.{Numbered}
use Rattle.desk_runs.specs.Printed.{printed}
use Rattle.desk_runs.specs.Shows.{IsStepsOutcome}

-- what a text is drawn as
abbrev pub print_in : Setting → List ℕ → List ℕ
print_in setting = printed setting.tables.now setting.width setting.base

-- the operations of the files
abbrev pub files_in : Setting → List (List OpView)
files_in setting = lists_of setting.files.now

-- the outcome of steps that write nothing, whatever was written before
abbrev pub IsSilentOutcomeIn : Setting → (desks : List Desk) → List Numbered → (after : List Desk) → Result (Unit {0}) RunFault → Type 0
IsSilentOutcomeIn setting desks steps after result =
    (written : Option (List ℕ)) → IsStepsOutcome (print_in setting) (files_in setting) (sets_of desks) steps (sets_of after) written written false result

-- steps may be done: there is a desk for each file, the view draws by the tables of the run, and no write has failed
pub record MayDoSteps (setting : Setting) (view : KeptView) (desks : List Desk) (failed : Bool) : Type 0 where
  pub count : length desks ≡ length setting.files.now
  pub tables : view.tables ≡ setting.tables.now
  pub working : failed ≡ false

-- the outcome of steps that the desks of a run do
abbrev pub IsStepsOutcomeIn : Setting → (desks : List Desk) → List Numbered → (after : List Desk) (old new : Option (List ℕ)) (failed : Bool) → Result (Unit {0}) RunFault → Type 0
IsStepsOutcomeIn setting desks steps after old new failed result = IsStepsOutcome (print_in setting) (files_in setting) (sets_of desks) steps (sets_of after) old new failed result
