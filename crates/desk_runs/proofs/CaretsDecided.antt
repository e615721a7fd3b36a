-- The data of a run of `carets` decides its answer: what follows from its outcome.
use Rattle.std.proofs.Common.{◌≡◌, ℕ, ◌<◌, ◌≤◌, ◌⊎◌, inl, inr, Bool, true, List, length, Option, Some, None, Result, Ok, Err, refl, ap, subst, ◌∙◌, arith}
use Rattle.std.specs.Prelude.{◌↔◌, MatchResult}
use Rattle.std.specs.Str.{chars}
use Rattle.std.specs.Io.KnownBytes.{Appends}
use Rattle.bg_types.specs.OperationSet.{OperationSet}
use Rattle.ucd_files.specs.declared.fault.UcdFault.{UcdFault}
use Rattle.op_codec.specs.declared.fault.CodecFault.TheVariants as codec
use Rattle.desk_replica.specs.declared.answer.TakeFault.{TakeFault}
use Rattle.desk_files.specs.declared.run_fault.RunFault.{RunFault}
use Rattle.desk_files.specs.declared.run_fault.RunFault.TheVariants.{Tables, File, Schedule, Step, Listing, PastEnd, Device, ReadFailed, Memory, TooLong}
use Rattle.desk_files.specs.Reading.{Flaw, malformed, too_long, flaw_fault}
use Rattle.desk_files.specs.Files.{IsFaultyFile, AreRefused}
use Rattle.desk_files.specs.TextOutcome.{text_bytes}
use Rattle.desk_runs.specs.CaretsOutcome.{Asked, lines_over, IsRead, IsBeyondText, IsWalkCaused, IsCaretsOutcome, IsCaretsDecided}
use Rattle.desk_files.specs.OneOutcome.{HaveOneOutcome}
use Rattle.desk_files.proofs.Interface.{one_of_two}

-- why there are no lines
data WalkFault (a : Asked) (fault : RunFault) : Type 0 where
  of_tables : (wrong : UcdFault) → fault ≡ Tables wrong → a.fault ≡ Some wrong → WalkFault a fault
  of_file : (n : ℕ) (flaw : Flaw) → fault ≡ flaw_fault n flaw → a.fault ≡ None → IsFaultyFile a.files n flaw → WalkFault a fault
  of_step : (refusal : TakeFault) → fault ≡ Step 0 1 refusal → a.fault ≡ None → AreRefused a.files refusal → WalkFault a fault
  of_place : fault ≡ PastEnd a.place → IsBeyondText a → WalkFault a fault
  of_memory : fault ≡ Memory → WalkFault a fault

walk_fault : (a : Asked) (fault : RunFault) → IsWalkCaused a fault → WalkFault a fault
walk_fault a (Tables fault) h = of_tables fault refl h
walk_fault a (File n (codec.Malformed frame cause)) h = of_file n (malformed frame cause) refl h.0 h.1
walk_fault a (File n codec.Memory) h = absurd h
walk_fault a (Schedule line fault) h = absurd h
walk_fault a (Step line desk fault) h = of_step fault (λ i. Step (h.1 i) (h.2 i) fault) h.0 h.3
walk_fault a (Listing line fault) h = absurd h
walk_fault a (PastEnd place) h = of_place (ap PastEnd h.0) h.1
walk_fault a Device h = absurd h
walk_fault a (ReadFailed file) h = absurd h
walk_fault a Memory h = of_memory refl
walk_fault a (TooLong n) h = of_file n too_long refl h.0 h.1

not_both : {fault : UcdFault} (o : Option UcdFault) → o ≡ Some fault → o ≡ None → ⊥
not_both o some none = absurd cc

same_tables : (o : Option UcdFault) (f g : UcdFault) → o ≡ Some f → o ≡ Some g → f ≡ g
same_tables o f g a b = cc

module _ (a : Asked) (outcome : HaveOneOutcome a.files) (old new : Option (List ℕ)) (failed : Bool) where
  one_text : (s t : OperationSet) → IsRead a s → IsRead a t → s ≡ t
  one_text s t x y = outcome.one_set s t x.of_files y.of_files

  -- a place is in the text or beyond it
  apart : (s t : OperationSet) → IsRead a s → IsRead a t → a.place ≤ length (chars (text_bytes s)) → length (chars (text_bytes t)) < a.place → ⊥
  apart s t x y within past =
      let beyond : length (chars (text_bytes s)) < a.place = subst (λ u. length (chars (text_bytes u)) < a.place) (one_text t s y x) past in
      absurd (omega arith)

  device : (r : Result (Unit {0}) RunFault) → IsCaretsOutcome a old new failed r → (failed ≡ true) ↔ (r ≡ Err Device)
  device (Ok done) h = let working = h.0 in ((λ yes. absurd cc), (λ is. absurd cc))
  device (Err fault) (inl h) = let working = h.1.0 in ((λ yes. absurd cc), (λ is. let same : fault ≡ Device = cc in absurd (subst (IsWalkCaused a) same h.0)))
  device (Err fault) (inr h) = ((λ yes. ap (λ (f : RunFault). Err f) h.0), (λ is. h.1))

  not_walked : (fault : RunFault) (s : OperationSet) → WalkFault a fault → IsRead a s → a.place ≤ length (chars (text_bytes s)) → fault ≡ Memory
  not_walked fault s (of_tables wrong is h) read within = absurd (not_both a.fault h read.tables)
  not_walked fault s (of_file n flaw is none h) read within = absurd (outcome.spelled_or_faulty read.of_files.lists n flaw read.of_files.spelled h)
  not_walked fault s (of_step refusal is none h) read within = absurd (outcome.set_or_refusal s refusal read.of_files read.limited h)
  not_walked fault s (of_place is h) read within = absurd (apart s h.set read h.read within h.past)
  not_walked fault s (of_memory is) read within = is

  walked : (r : Result (Unit {0}) RunFault) → IsCaretsOutcome a old new failed r → (s : OperationSet) → IsRead a s → a.place ≤ length (chars (text_bytes s))
      → MatchResult r (λ _. Appends old new (lines_over a (text_bytes s))) (λ fault. (fault ≡ Device) ⊎ (fault ≡ Memory))
  walked (Ok done) h s read within = subst (λ t. Appends old new (lines_over a (text_bytes t))) (one_text h.1.set s h.1.read read) h.1.written
  walked (Err fault) (inl h) s read within = inr (not_walked fault s (walk_fault a fault h.0) read within)
  walked (Err fault) (inr h) s read within = inl h.0

  past_fault : (fault : RunFault) (s : OperationSet) → WalkFault a fault → IsRead a s → (fault ≡ PastEnd a.place) ⊎ (fault ≡ Memory)
  past_fault fault s (of_tables wrong is h) read = absurd (not_both a.fault h read.tables)
  past_fault fault s (of_file n flaw is none h) read = absurd (outcome.spelled_or_faulty read.of_files.lists n flaw read.of_files.spelled h)
  past_fault fault s (of_step refusal is none h) read = absurd (outcome.set_or_refusal s refusal read.of_files read.limited h)
  past_fault fault s (of_place is h) read = inl is
  past_fault fault s (of_memory is) read = inr is

  past : (r : Result (Unit {0}) RunFault) → IsCaretsOutcome a old new failed r → (s : OperationSet) → IsRead a s → length (chars (text_bytes s)) < a.place → (r ≡ Err (PastEnd a.place)) ⊎ (r ≡ Err Memory)
  past (Ok done) h s read beyond = absurd (apart h.1.set s h.1.read read h.1.within beyond)
  past (Err fault) (inl h) s read beyond = one_of_two fault (PastEnd a.place) Memory (past_fault fault s (walk_fault a fault h.0) read)
  past (Err fault) (inr h) s read beyond = absurd (apart h.2.set s h.2.read read h.2.within beyond)

  tables_fault : (fault : RunFault) (wrong : UcdFault) → WalkFault a fault → a.fault ≡ Some wrong → (fault ≡ Tables wrong) ⊎ (fault ≡ Memory)
  tables_fault fault wrong (of_tables other is h) some = inl (is ∙ ap Tables (same_tables a.fault other wrong h some))
  tables_fault fault wrong (of_file n flaw is none h) some = absurd (not_both a.fault some none)
  tables_fault fault wrong (of_step refusal is none h) some = absurd (not_both a.fault some none)
  tables_fault fault wrong (of_place is h) some = absurd (not_both a.fault some h.read.tables)
  tables_fault fault wrong (of_memory is) some = inr is

  tables : (r : Result (Unit {0}) RunFault) → IsCaretsOutcome a old new failed r → (wrong : UcdFault) → a.fault ≡ Some wrong → (r ≡ Err (Tables wrong)) ⊎ (r ≡ Err Memory)
  tables (Ok done) h wrong some = absurd (not_both a.fault some h.1.read.tables)
  tables (Err fault) (inl h) wrong some = one_of_two fault (Tables wrong) Memory (tables_fault fault wrong (walk_fault a fault h.0) some)
  tables (Err fault) (inr h) wrong some = absurd (not_both a.fault some h.2.read.tables)

  file_fault : (fault : RunFault) (n : ℕ) (flaw : Flaw) → WalkFault a fault → a.fault ≡ None → IsFaultyFile a.files n flaw → (fault ≡ flaw_fault n flaw) ⊎ (fault ≡ Memory)
  file_fault fault n flaw (of_tables wrong is h) none faulty = absurd (not_both a.fault h none)
  file_fault fault n flaw (of_file m other is sound h) none faulty =
      let one = outcome.one_faulty m n other flaw h faulty in
      inl (is ∙ (λ i. flaw_fault (one.0 i) (one.1 i)))
  file_fault fault n flaw (of_step refusal is sound h) none faulty = absurd (outcome.spelled_or_faulty h.lists n flaw h.spelled faulty)
  file_fault fault n flaw (of_place is h) none faulty = absurd (outcome.spelled_or_faulty h.read.of_files.lists n flaw h.read.of_files.spelled faulty)
  file_fault fault n flaw (of_memory is) none faulty = inr is

  faulty : (r : Result (Unit {0}) RunFault) → IsCaretsOutcome a old new failed r → (n : ℕ) (flaw : Flaw) → a.fault ≡ None → IsFaultyFile a.files n flaw
      → (r ≡ Err (flaw_fault n flaw)) ⊎ (r ≡ Err Memory)
  faulty (Ok done) h n flaw none wrong = absurd (outcome.spelled_or_faulty h.1.read.of_files.lists n flaw h.1.read.of_files.spelled wrong)
  faulty (Err fault) (inl h) n flaw none wrong = one_of_two fault (flaw_fault n flaw) Memory (file_fault fault n flaw (walk_fault a fault h.0) none wrong)
  faulty (Err fault) (inr h) n flaw none wrong = absurd (outcome.spelled_or_faulty h.2.read.of_files.lists n flaw h.2.read.of_files.spelled wrong)

  step_fault : (fault : RunFault) (refusal : TakeFault) → WalkFault a fault → a.fault ≡ None → AreRefused a.files refusal → (fault ≡ Step 0 1 refusal) ⊎ (fault ≡ Memory)
  step_fault fault refusal (of_tables wrong is h) none refused = absurd (not_both a.fault h none)
  step_fault fault refusal (of_file n flaw is sound h) none refused = absurd (outcome.spelled_or_faulty refused.lists n flaw refused.spelled h)
  step_fault fault refusal (of_step other is sound h) none refused = inl (is ∙ ap (λ f. Step 0 1 f) (outcome.one_refusal other refusal h refused))
  step_fault fault refusal (of_place is h) none refused = absurd (outcome.set_or_refusal h.set refusal h.read.of_files h.read.limited refused)
  step_fault fault refusal (of_memory is) none refused = inr is

  refused : (r : Result (Unit {0}) RunFault) → IsCaretsOutcome a old new failed r → (refusal : TakeFault) → a.fault ≡ None → AreRefused a.files refusal → (r ≡ Err (Step 0 1 refusal)) ⊎ (r ≡ Err Memory)
  refused (Ok done) h refusal none wrong = absurd (outcome.set_or_refusal h.1.set refusal h.1.read.of_files h.1.read.limited wrong)
  refused (Err fault) (inl h) refusal none wrong = one_of_two fault (Step 0 1 refusal) Memory (step_fault fault refusal (walk_fault a fault h.0) none wrong)
  refused (Err fault) (inr h) refusal none wrong = absurd (outcome.set_or_refusal h.2.set refusal h.2.read.of_files h.2.read.limited wrong)

  pub carets_decided : (r : Result (Unit {0}) RunFault) → IsCaretsOutcome a old new failed r → IsCaretsDecided a old new failed r
  carets_decided r h = record { device = device r h; walked = walked r h; past = past r h; tables = tables r h; faulty = faulty r h; refused = refused r h }
