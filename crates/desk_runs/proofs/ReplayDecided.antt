-- The data of a run of `replay` decides its answer: what follows from its outcome.
use Rattle.std.proofs.Common.{◌≡◌, ℕ, List, ◌⊎◌, inl, inr, Bool, true, false, length, Option, Some, None, Result, Ok, Err, refl, ap, subst, ◌∙◌}
use Rattle.std.specs.Prelude.{◌↔◌, MatchResult}
use Rattle.std.specs.List.{AllZip}
use Rattle.std.specs.Io.KnownBytes.{Appends}
use Rattle.bg_types.specs.OperationSet.{OperationSet}
use Rattle.bg_types.specs.declared.op.OpView.{OpView}
use Rattle.op_codec.specs.declared.fault.CodecFault.TheVariants as codec
use Rattle.ucd_files.specs.declared.fault.UcdFault.{UcdFault}
use Rattle.desk_replica.specs.declared.answer.TakeFault.{TakeFault}
use Rattle.desk_replica.specs.DeskSets.{empty_desks}
use Rattle.desk_files.specs.declared.schedule_fault.ScheduleFault.{ScheduleFault}
use Rattle.desk_files.specs.declared.run_fault.RunFault.{RunFault}
use Rattle.desk_files.specs.declared.run_fault.RunFault.TheVariants.{Tables, File, Schedule, Step, Listing, Device, PastEnd, ReadFailed, Memory, TooLong}
use Rattle.desk_files.specs.declared.schedule.step.Numbered.{Numbered}
use Rattle.desk_files.specs.Reading.{IsReadAs, Flaw, malformed, too_long, flaw_fault}
use Rattle.desk_files.specs.Files.{IsFaultyFile}
use Rattle.desk_runs.specs.Steps.{FirstRefused}
use Rattle.desk_runs.specs.Shows.{IsStepsEnd}
use Rattle.desk_runs.specs.ReplayOutcome.{Given, print_of, IsPlan, IsFaultyPlan, IsUnrefused, shows_of, IsRefused, IsFaultySchedule, EndsInSteps, IsUnread, IsReplayOutcome, IsReplayDecided}
use Rattle.desk_files.specs.OneOutcome.{HaveOneOutcome}
use Rattle.desk_files.proofs.Interface.{one_of_two}
use Rattle.desk_runs.proofs.OnePlan.{ScheduleLaws, some_apart, one_plan, plan_apart, one_faulty_plan}
use Rattle.desk_runs.proofs.OneRefusal.{RefusalLaws, refused_apart, one_refusal}

-- why not all could be read
data UnreadFault (g : Given) (fault : RunFault) : Type 0 where
  of_tables : (wrong : UcdFault) → fault ≡ Tables wrong → g.fault ≡ Some wrong → UnreadFault g fault
  of_file : (n : ℕ) (flaw : Flaw) → fault ≡ flaw_fault n flaw → g.fault ≡ None → IsFaultyFile g.files n flaw → UnreadFault g fault
  of_schedule : (line : ℕ) (wrong : ScheduleFault) → fault ≡ Schedule line wrong → IsFaultySchedule g line wrong → UnreadFault g fault
  of_memory : fault ≡ Memory → UnreadFault g fault

unread_fault : (g : Given) (fault : RunFault) → IsUnread g fault → UnreadFault g fault
unread_fault g (Tables fault) h = of_tables fault refl h
unread_fault g (File n (codec.Malformed frame cause)) h = of_file n (malformed frame cause) refl h.0 h.1
unread_fault g (File n codec.Memory) h = absurd h
unread_fault g (Schedule line fault) h = of_schedule line fault refl h
unread_fault g (Step line desk fault) h = absurd h
unread_fault g (Listing line fault) h = absurd h
unread_fault g (PastEnd place) h = absurd h
unread_fault g Device h = absurd h
unread_fault g (ReadFailed file) h = absurd h
unread_fault g Memory h = of_memory refl
unread_fault g (TooLong n) h = of_file n too_long refl h.0 h.1

-- why steps ended early
data StepsFault (files : List (List OpView)) (sets : List OperationSet) (steps : List Numbered) (failed : Bool) (fault : RunFault) : Type 0 where
  of_step : (line desk : ℕ) (refusal : TakeFault) → fault ≡ Step line desk refusal → failed ≡ false → FirstRefused files sets steps line desk refusal → StepsFault files sets steps failed fault
  of_device : fault ≡ Device → failed ≡ true → StepsFault files sets steps failed fault
  of_want : fault ≡ Memory → failed ≡ false → StepsFault files sets steps failed fault

steps_fault : (print : List ℕ → List ℕ) (files : List (List OpView)) (sets : List OperationSet) (steps : List Numbered) (old new : Option (List ℕ)) (failed : Bool) (fault : RunFault)
    → IsStepsEnd print files sets steps old new failed fault → StepsFault files sets steps failed fault
steps_fault print files sets steps old new failed (Tables fault) h = absurd h
steps_fault print files sets steps old new failed (File n fault) h = absurd h
steps_fault print files sets steps old new failed (Schedule line fault) h = absurd h
steps_fault print files sets steps old new failed (Step line desk fault) h = of_step line desk fault refl h.0 h.1.first
steps_fault print files sets steps old new failed (Listing line fault) h = absurd h
steps_fault print files sets steps old new failed Device h = of_device refl h.0
steps_fault print files sets steps old new failed (PastEnd place) h = absurd h
steps_fault print files sets steps old new failed (ReadFailed file) h = absurd h
steps_fault print files sets steps old new failed (TooLong file) h = absurd h
steps_fault print files sets steps old new failed Memory h = of_want refl h.0

same_tables : (o : Option UcdFault) (f g : UcdFault) → o ≡ Some f → o ≡ Some g → f ≡ g
same_tables o f g a b = cc

module _ (schedules : ScheduleLaws) (refusals : RefusalLaws) (g : Given) (outcome : HaveOneOutcome g.files) (old new : Option (List ℕ)) (failed : Bool) where
  -- ---- the lists that the files spell and the steps of their plan are one

  moved : (files lists : List (List OpView)) (steps : List Numbered) (a : AllZip IsReadAs g.files files) (b : AllZip IsReadAs g.files lists) → IsPlan files g.schedule steps → IsPlan lists g.schedule steps
  moved files lists steps a b h = subst (λ (fs : List (List OpView)). IsPlan fs g.schedule steps) (outcome.one_list files lists a b) h

  first_moved : (files lists : List (List OpView)) (steps others : List Numbered) (line desk : ℕ) (fault : TakeFault) → AllZip IsReadAs g.files files → AllZip IsReadAs g.files lists → IsPlan files g.schedule steps → IsPlan lists g.schedule others
      → FirstRefused files (empty_desks (length files)) steps line desk fault → FirstRefused lists (empty_desks (length lists)) others line desk fault
  first_moved files lists steps others line desk fault a b p q h =
      let same = one_plan lists g.schedule steps others (moved files lists steps a b p) q in
      subst (λ (ss : List Numbered). FirstRefused lists (empty_desks (length lists)) ss line desk fault) same
      (subst (λ (fs : List (List OpView)). FirstRefused fs (empty_desks (length fs)) steps line desk fault) (outcome.one_list files lists a b) h)

  plan_wrong : (files lists : List (List OpView)) (steps : List Numbered) (line : ℕ) (fault : ScheduleFault) → AllZip IsReadAs g.files files → AllZip IsReadAs g.files lists → IsPlan files g.schedule steps → IsFaultyPlan lists g.schedule line fault → ⊥
  plan_wrong files lists steps line fault a b planned wrong = plan_apart schedules lists g.schedule steps line fault (moved files lists steps a b planned) wrong

  ended : (fault : RunFault) (h : EndsInSteps g old new failed fault) → StepsFault h.files (empty_desks (length h.files)) h.steps failed fault
  ended fault h = steps_fault (print_of g) h.files (empty_desks (length h.files)) h.steps old new failed fault h.end

  -- ---- the answer

  unread_device : (fault : RunFault) → UnreadFault g fault → fault ≡ Device → ⊥
  unread_device fault (of_tables wrong is h) device = absurd cc
  unread_device fault (of_file n (malformed frame cause) is none h) device = absurd cc
  unread_device fault (of_file n too_long is none h) device = absurd cc
  unread_device fault (of_schedule line wrong is h) device = absurd cc
  unread_device fault (of_memory is) device = absurd cc

  steps_device : (files : List (List OpView)) (sets : List OperationSet) (steps : List Numbered) (fault : RunFault) → StepsFault files sets steps failed fault → (failed ≡ true) ↔ (fault ≡ Device)
  steps_device files sets steps fault (of_step line desk refusal is working h) = ((λ yes. absurd cc), (λ device. absurd cc))
  steps_device files sets steps fault (of_device is h) = ((λ yes. is), (λ device. h))
  steps_device files sets steps fault (of_want is working) = ((λ yes. absurd cc), (λ device. absurd cc))

  device : (r : Result (Unit {0}) RunFault) → IsReplayOutcome g old new failed r → (failed ≡ true) ↔ (r ≡ Err Device)
  device (Ok done) h = let working = h.0 in ((λ yes. absurd cc), (λ is. absurd cc))
  device (Err fault) (inl h) = let working = h.1.0 in ((λ yes. absurd cc), (λ is. let same : fault ≡ Device = cc in absurd (unread_device fault (unread_fault g fault h.0) same)))
  device (Err fault) (inr h) =
      let told = steps_device h.files (empty_desks (length h.files)) h.steps fault (ended fault h) in
      ((λ yes. ap (λ (f : RunFault). Err f) (told.0 yes)), (λ is. let same : fault ≡ Device = cc in told.1 same))

  -- no step is refused

  unread_apart : (fault : RunFault) (files : List (List OpView)) (steps : List Numbered) → UnreadFault g fault → IsUnrefused g files steps → fault ≡ Memory
  unread_apart fault files steps (of_tables wrong is h) run = absurd (some_apart g.fault wrong run.ready.tables h)
  unread_apart fault files steps (of_file n flaw is none h) run = absurd (outcome.spelled_or_faulty files n flaw run.ready.spelled h)
  unread_apart fault files steps (of_schedule line wrong is h) run = absurd (plan_wrong files h.files steps line wrong run.ready.spelled h.spelled run.ready.planned h.shown)
  unread_apart fault files steps (of_memory is) run = is

  ended_apart : (fault : RunFault) (files : List (List OpView)) (steps : List Numbered) (h : EndsInSteps g old new failed fault) → StepsFault h.files (empty_desks (length h.files)) h.steps failed fault
      → IsUnrefused g files steps → (fault ≡ Device) ⊎ (fault ≡ Memory)
  ended_apart fault files steps h (of_step line desk refusal is working first) run =
      absurd (refused_apart files (empty_desks (length files)) steps line desk refusal run.none_refused
      (first_moved h.files files h.steps steps line desk refusal h.ready.spelled run.ready.spelled h.ready.planned run.ready.planned first))
  ended_apart fault files steps h (of_device is failing) run = inl is
  ended_apart fault files steps h (of_want is working) run = inr is

  shown : (r : Result (Unit {0}) RunFault) → IsReplayOutcome g old new failed r → (files : List (List OpView)) (steps : List Numbered) → IsUnrefused g files steps
      → MatchResult r (λ _. Appends old new (shows_of g files steps)) (λ fault. (fault ≡ Device) ⊎ (fault ≡ Memory))
  shown (Ok done) h files steps run =
      let w = h.1 in
      let lists = outcome.one_list w.files files w.unrefused.ready.spelled run.ready.spelled in
      let same = one_plan files g.schedule w.steps steps (moved w.files files w.steps w.unrefused.ready.spelled run.ready.spelled w.unrefused.ready.planned) run.ready.planned in
      subst (Appends old new) (ap (λ (fs : List (List OpView)). shows_of g fs w.steps) lists ∙ ap (shows_of g files) same) w.written
  shown (Err fault) (inl h) files steps run = inr (unread_apart fault files steps (unread_fault g fault h.0) run)
  shown (Err fault) (inr h) files steps run = ended_apart fault files steps h (ended fault h) run

  -- a data file is faulty

  tables_fault : (fault : RunFault) (wrong : UcdFault) → UnreadFault g fault → g.fault ≡ Some wrong → (fault ≡ Tables wrong) ⊎ (fault ≡ Memory)
  tables_fault fault wrong (of_tables other is h) some = inl (is ∙ ap Tables (same_tables g.fault other wrong h some))
  tables_fault fault wrong (of_file n flaw is none h) some = absurd (some_apart g.fault wrong none some)
  tables_fault fault wrong (of_schedule line other is h) some = absurd (some_apart g.fault wrong h.tables some)
  tables_fault fault wrong (of_memory is) some = inr is

  tables : (r : Result (Unit {0}) RunFault) → IsReplayOutcome g old new failed r → (wrong : UcdFault) → g.fault ≡ Some wrong → (r ≡ Err (Tables wrong)) ⊎ (r ≡ Err Memory)
  tables (Ok done) h wrong some = absurd (some_apart g.fault wrong h.1.unrefused.ready.tables some)
  tables (Err fault) (inl h) wrong some = one_of_two fault (Tables wrong) Memory (tables_fault fault wrong (unread_fault g fault h.0) some)
  tables (Err fault) (inr h) wrong some = absurd (some_apart g.fault wrong h.ready.tables some)

  -- an operation file is faulty

  file_fault : (fault : RunFault) (n : ℕ) (flaw : Flaw) → UnreadFault g fault → g.fault ≡ None → IsFaultyFile g.files n flaw → (fault ≡ flaw_fault n flaw) ⊎ (fault ≡ Memory)
  file_fault fault n flaw (of_tables wrong is h) none faulty = absurd (some_apart g.fault wrong none h)
  file_fault fault n flaw (of_file m other is sound h) none faulty =
      let one = outcome.one_faulty m n other flaw h faulty in
      inl (is ∙ (λ i. flaw_fault (one.0 i) (one.1 i)))
  file_fault fault n flaw (of_schedule line wrong is h) none faulty = absurd (outcome.spelled_or_faulty h.files n flaw h.spelled faulty)
  file_fault fault n flaw (of_memory is) none faulty = inr is

  faulty : (r : Result (Unit {0}) RunFault) → IsReplayOutcome g old new failed r → (n : ℕ) (flaw : Flaw) → g.fault ≡ None → IsFaultyFile g.files n flaw
      → (r ≡ Err (flaw_fault n flaw)) ⊎ (r ≡ Err Memory)
  faulty (Ok done) h n flaw none wrong = absurd (outcome.spelled_or_faulty h.1.files n flaw h.1.unrefused.ready.spelled wrong)
  faulty (Err fault) (inl h) n flaw none wrong = one_of_two fault (flaw_fault n flaw) Memory (file_fault fault n flaw (unread_fault g fault h.0) none wrong)
  faulty (Err fault) (inr h) n flaw none wrong = absurd (outcome.spelled_or_faulty h.files n flaw h.ready.spelled wrong)

  -- a line of the schedule is faulty

  schedule_fault : (fault : RunFault) (line : ℕ) (wrong : ScheduleFault) → UnreadFault g fault → IsFaultySchedule g line wrong → (fault ≡ Schedule line wrong) ⊎ (fault ≡ Memory)
  schedule_fault fault line wrong (of_tables other is h) faulty = absurd (some_apart g.fault other faulty.tables h)
  schedule_fault fault line wrong (of_file n flaw is none h) faulty = absurd (outcome.spelled_or_faulty faulty.files n flaw faulty.spelled h)
  schedule_fault fault line wrong (of_schedule at other is h) faulty =
      let there = subst (λ (fs : List (List OpView)). IsFaultyPlan fs g.schedule at other) (outcome.one_list h.files faulty.files h.spelled faulty.spelled) h.shown in
      let one = one_faulty_plan schedules faulty.files g.schedule at line other wrong there faulty.shown in
      inl (is ∙ (λ i. Schedule (one.0 i) (one.1 i)))
  schedule_fault fault line wrong (of_memory is) faulty = inr is

  schedule : (r : Result (Unit {0}) RunFault) → IsReplayOutcome g old new failed r → (line : ℕ) (wrong : ScheduleFault) → IsFaultySchedule g line wrong → (r ≡ Err (Schedule line wrong)) ⊎ (r ≡ Err Memory)
  schedule (Ok done) h line wrong faulty = absurd (plan_wrong h.1.files faulty.files h.1.steps line wrong h.1.unrefused.ready.spelled faulty.spelled h.1.unrefused.ready.planned faulty.shown)
  schedule (Err fault) (inl h) line wrong faulty = one_of_two fault (Schedule line wrong) Memory (schedule_fault fault line wrong (unread_fault g fault h.0) faulty)
  schedule (Err fault) (inr h) line wrong faulty = absurd (plan_wrong h.files faulty.files h.steps line wrong h.ready.spelled faulty.spelled h.ready.planned faulty.shown)

  -- a step is refused

  unread_refused : (fault : RunFault) (line desk : ℕ) (refusal : TakeFault) → UnreadFault g fault → IsRefused g line desk refusal → fault ≡ Memory
  unread_refused fault line desk refusal (of_tables wrong is h) run = absurd (some_apart g.fault wrong run.ready.tables h)
  unread_refused fault line desk refusal (of_file n flaw is none h) run = absurd (outcome.spelled_or_faulty run.files n flaw run.ready.spelled h)
  unread_refused fault line desk refusal (of_schedule at wrong is h) run = absurd (plan_wrong run.files h.files run.steps at wrong run.ready.spelled h.spelled run.ready.planned h.shown)
  unread_refused fault line desk refusal (of_memory is) run = is

  step_fault : (fault : RunFault) (line desk : ℕ) (refusal : TakeFault) (h : EndsInSteps g old new failed fault) → StepsFault h.files (empty_desks (length h.files)) h.steps failed fault → IsRefused g line desk refusal
      → (let r : Result (Unit {0}) RunFault = Err fault in (r ≡ Err (Step line desk refusal)) ⊎ (r ≡ Err Device) ⊎ (r ≡ Err Memory))
  step_fault fault line desk refusal h (of_step at who other is working first) run =
      let one = one_refusal refusals run.files (empty_desks (length run.files)) run.steps at line who desk other refusal
      (first_moved h.files run.files h.steps run.steps at who other h.ready.spelled run.ready.spelled h.ready.planned run.ready.planned first) run.first in
      inl (ap (λ (f : RunFault). Err f) (is ∙ (λ i. Step (one.0 i) (one.1 i) (one.2 i))))
  step_fault fault line desk refusal h (of_device is failing) run = inr (inl (ap (λ (f : RunFault). Err f) is))
  step_fault fault line desk refusal h (of_want is working) run = inr (inr (ap (λ (f : RunFault). Err f) is))

  refused : (r : Result (Unit {0}) RunFault) → IsReplayOutcome g old new failed r → (line desk : ℕ) (refusal : TakeFault) → IsRefused g line desk refusal
      → (r ≡ Err (Step line desk refusal)) ⊎ (r ≡ Err Device) ⊎ (r ≡ Err Memory)
  refused (Ok done) h line desk refusal run =
      absurd (refused_apart h.1.files (empty_desks (length h.1.files)) h.1.steps line desk refusal h.1.unrefused.none_refused
      (first_moved run.files h.1.files run.steps h.1.steps line desk refusal run.ready.spelled h.1.unrefused.ready.spelled run.ready.planned h.1.unrefused.ready.planned run.first))
  refused (Err fault) (inl h) line desk refusal run = inr (inr (ap (λ (f : RunFault). Err f) (unread_refused fault line desk refusal (unread_fault g fault h.0) run)))
  refused (Err fault) (inr h) line desk refusal run = step_fault fault line desk refusal h (ended fault h) run

  pub replay_decided : (r : Result (Unit {0}) RunFault) → IsReplayOutcome g old new failed r → IsReplayDecided g old new failed r
  replay_decided r h = record { device = device r h; shown = shown r h; tables = tables r h; faulty = faulty r h; schedule = schedule r h; refused = refused r h }
