-- Runs of a plan, and what they are for the data that a run is given.
use Rattle.std.proofs.Common.{◌≡◌, ℕ, List, Result, Ok, Err, inl, inr, length, Option, Some, None, subst}
use Rattle.std.specs.Prelude.{◌≢◌, Bool, false}
use Rattle.std.specs.List.{AllZip}
use Rattle.std.proofs.KnownBytes.{Keeps-refl}
use Rattle.bg_types.specs.OperationSet.{OperationSet}
use Rattle.bg_types.specs.declared.op.OpView.{OpView}
use Rattle.ucd_files.specs.declared.fault.UcdFault.{UcdFault}
use Rattle.ucd_files.specs.declared.fault.UcdFault.TheVariants as ucd
use Rattle.op_codec.specs.declared.fault.CodecFault.TheVariants as codec
use Rattle.desk_files.specs.declared.run_fault.RunFault.{RunFault}
use Rattle.desk_files.specs.declared.run_fault.RunFault.TheVariants.{Tables, File, Schedule, Step, Listing, Device, PastEnd, ReadFailed, Memory, TooLong}
use Rattle.desk_files.specs.declared.schedule.step.Numbered.{Numbered}
use Rattle.desk_files.specs.Reading.{IsReadAs}
use Rattle.desk_files.specs.Fault.{of_ucd_fault}
use Rattle.desk_files.specs.Cause.{IsReadCaused, IsScheduleCaused}
use Rattle.desk_replica.specs.DeskSets.{empty_desks}
use Rattle.desk_runs.specs.Shows.{IsStepsOutcome}
use Rattle.desk_runs.specs.ReplayOutcome.{Given, print_of, IsPlan, IsUnplanned, IsPlanOutcome, IsUnread, IsReplayOutcome}

-- ---- the plan's steps

module _ (print : List ℕ → List ℕ) (files : List (List OpView)) (schedule : Option (List ℕ)) (old : Option (List ℕ)) where
  -- the steps of the plan are done by desks that hold nothing
  pub steps_of_plan : (steps : List Numbered) (sets after : List OperationSet) (new : Option (List ℕ)) (failed : Bool) (r : Result (Unit {0}) RunFault) → IsPlan files schedule steps
      → sets ≡ empty_desks (length files) → IsStepsOutcome print files sets steps after old new failed r → IsPlanOutcome print files schedule old new failed r
  steps_of_plan steps sets after new failed (Ok done) planned empty h =
      let ran = subst (λ (s : List OperationSet). IsStepsOutcome print files s steps after old new failed (Ok done)) empty h in
      (ran.0, record { steps = steps; planned = planned; none_refused = ran.1.none_refused; written = ran.1.written })
  steps_of_plan steps sets after new failed (Err fault) planned empty h =
      inr (record { steps = steps; planned = planned; end = subst (λ (s : List OperationSet). IsStepsOutcome print files s steps after old new failed (Err fault)) empty h })

  pub plan_unread : (failed : Bool) (fault : RunFault) → failed ≡ false → IsUnplanned files schedule fault → IsPlanOutcome print files schedule old old failed (Err fault)
  plan_unread failed fault working h = inl (h, (working, Keeps-refl old))

-- where a line of a schedule is faulty, a run by it has no plan
pub unscheduled : (files : List (List OpView)) (bytes : List ℕ) (fault : RunFault) → IsScheduleCaused files bytes fault → IsUnplanned files (Some bytes) fault
unscheduled files bytes (Tables fault) h = h
unscheduled files bytes (File n fault) h = h
unscheduled files bytes (Schedule line fault) h = h
unscheduled files bytes (Step line desk fault) h = h
unscheduled files bytes (Listing line fault) h = h
unscheduled files bytes (PastEnd place) h = h
unscheduled files bytes Device h = h
unscheduled files bytes (ReadFailed file) h = h
unscheduled files bytes (TooLong file) h = h
unscheduled files bytes Memory h = h

-- ---- the data of a run

module _ (g : Given) where
  tables_unread : (fault : UcdFault) → (fault ≢ ucd.Memory → g.fault ≡ Some fault) → IsUnread g (of_ucd_fault fault)
  tables_unread (ucd.At file line cause) h = h (λ is. absurd cc)
  tables_unread ucd.Memory h = tt

  files_unread : (fault : RunFault) → g.fault ≡ None → IsReadCaused g.files fault → IsUnread g fault
  files_unread (Tables fault) none h = absurd h
  files_unread (File n (codec.Malformed frame cause)) none h = (none, h)
  files_unread (File n codec.Memory) none h = h
  files_unread (Schedule line fault) none h = absurd h
  files_unread (Step line desk fault) none h = absurd h
  files_unread (Listing line fault) none h = h
  files_unread Device none h = absurd h
  files_unread (PastEnd place) none h = h
  files_unread (ReadFailed file) none h = h
  files_unread Memory none h = tt
  files_unread (TooLong n) none h = (none, h)

  module _ (old : Option (List ℕ)) (failed : Bool) (working : failed ≡ false) where
    pub ended_by_tables : (fault : UcdFault) → (fault ≢ ucd.Memory → g.fault ≡ Some fault) → IsReplayOutcome g old old failed (Err (of_ucd_fault fault))
    ended_by_tables fault h = inl (tables_unread fault h, (working, Keeps-refl old))

    pub ended_by_files : (fault : RunFault) → g.fault ≡ None → IsReadCaused g.files fault → IsReplayOutcome g old old failed (Err fault)
    ended_by_files fault none h = inl (files_unread fault none h, (working, Keeps-refl old))

module _ (g : Given) (files : List (List OpView)) (none : g.fault ≡ None) (spelled : AllZip IsReadAs g.files files) (old new : Option (List ℕ)) (failed : Bool) where
  plan_unread_is : (fault : RunFault) → IsUnplanned files g.schedule fault → IsUnread g fault
  plan_unread_is (Tables fault) h = absurd h
  plan_unread_is (File n fault) h = absurd h
  plan_unread_is (Schedule line fault) h = record { files = files; tables = none; spelled = spelled; shown = h }
  plan_unread_is (Step line desk fault) h = h
  plan_unread_is (Listing line fault) h = h
  plan_unread_is Device h = h
  plan_unread_is (PastEnd place) h = h
  plan_unread_is (ReadFailed file) h = h
  plan_unread_is Memory h = tt
  plan_unread_is (TooLong file) h = absurd h

  pub plan_of_run : (r : Result (Unit {0}) RunFault) → IsPlanOutcome (print_of g) files g.schedule old new failed r → IsReplayOutcome g old new failed r
  plan_of_run (Ok done) h = (
    h.0,
    record {
      files = files;
      steps = h.1.steps;
      unrefused = record { ready = record { tables = none; spelled = spelled; planned = h.1.planned }; none_refused = h.1.none_refused };
      written = h.1.written;
    },
  )
  plan_of_run (Err fault) h = elim h [
    | inl unread ↦ inl (plan_unread_is fault unread.0, unread.1)
    | inr ends ↦ inr (record { files = files; steps = ends.steps; ready = record { tables = none; spelled = spelled; planned = ends.planned }; end = ends.end })
  ]
