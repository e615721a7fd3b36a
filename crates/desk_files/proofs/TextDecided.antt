-- The files of a run decide its answer: what follows from its outcome.
use Rattle.std.proofs.Common.{◌≡◌, ℕ, ◌≤◌, ◌⊎◌, inl, inr, Bool, true, List, Option, Result, Ok, Err, refl, ap, subst, ◌∙◌}
use Rattle.std.specs.Prelude.{◌↔◌, MatchResult, encode_utf8_all}
use Rattle.std.specs.Io.KnownBytes.{Appends}
use Rattle.bg_types.specs.OperationSet.{OperationSet, size}
use Rattle.op_codec.specs.declared.fault.CodecFault.TheVariants as codec
use Rattle.rga_tree.specs.TextOf.{text}
use Rattle.desk_replica.specs.declared.answer.TakeFault.{TakeFault}
use Rattle.desk_files.specs.declared.run_fault.RunFault.{RunFault}
use Rattle.desk_files.specs.declared.run_fault.RunFault.TheVariants.{Tables, File, Schedule, Step, Listing, Device, PastEnd, ReadFailed, Memory, TooLong}
use Rattle.desk_files.specs.Reading.{Flaw, malformed, too_long, flaw_fault}
use Rattle.desk_files.specs.Files.{IsSetOfFiles, IsFaultyFile, AreRefused}
use Rattle.desk_files.specs.Cause.{IsTakingCaused}
use Rattle.desk_files.specs.TextOutcome.{IsTextOutcome, IsTextDecided}
use Rattle.desk_files.specs.OneOutcome.{HaveOneOutcome}
use Rattle.desk_files.proofs.Decided.{one_of_two}

-- why one desk did not take the operations of all files
pub data TakingFault (files : List (List ℕ)) (fault : RunFault) : Type 0 where
  of_file : (n : ℕ) (flaw : Flaw) → fault ≡ flaw_fault n flaw → IsFaultyFile files n flaw → TakingFault files fault
  of_step : (refusal : TakeFault) → fault ≡ Step 0 1 refusal → AreRefused files refusal → TakingFault files fault
  of_memory : fault ≡ Memory → TakingFault files fault

pub taking_fault : (files : List (List ℕ)) (fault : RunFault) → IsTakingCaused files fault → TakingFault files fault
taking_fault files (Tables fault) h = absurd h
taking_fault files (File n (codec.Malformed frame cause)) h = of_file n (malformed frame cause) refl h
taking_fault files (File n codec.Memory) h = absurd h
taking_fault files (Schedule line fault) h = absurd h
taking_fault files (Step line desk fault) h = of_step fault (λ i. Step (h.0 i) (h.1 i) fault) h.2
taking_fault files (Listing line fault) h = absurd h
taking_fault files Device h = absurd h
taking_fault files (PastEnd place) h = absurd h
taking_fault files (ReadFailed file) h = absurd h
taking_fault files Memory h = of_memory refl
taking_fault files (TooLong n) h = of_file n too_long refl h

module _ (files : List (List ℕ)) (outcome : HaveOneOutcome files) (old new : Option (List ℕ)) (failed : Bool) where
  device : (r : Result (Unit {0}) RunFault) → IsTextOutcome files old new failed r → (failed ≡ true) ↔ (r ≡ Err Device)
  device (Ok done) h = let working = h.0 in ((λ yes. absurd cc), (λ is. absurd cc))
  device (Err fault) (inl h) = let working = h.1.0 in ((λ yes. absurd cc), (λ is. let same : fault ≡ Device = cc in absurd (subst (IsTakingCaused files) same h.0)))
  device (Err fault) (inr h) = ((λ yes. ap (λ (f : RunFault). Err f) h.0), (λ is. h.1))

  not_taken : (fault : RunFault) (s : OperationSet) → TakingFault files fault → IsSetOfFiles files s → size s ≤ 1_000_000 → fault ≡ Memory
  not_taken fault s (of_file n flaw is h) of_files limited = absurd (outcome.spelled_or_faulty of_files.lists n flaw of_files.spelled h)
  not_taken fault s (of_step refusal is h) of_files limited = absurd (outcome.set_or_refusal s refusal of_files limited h)
  not_taken fault s (of_memory is) of_files limited = is

  joined : (r : Result (Unit {0}) RunFault) → IsTextOutcome files old new failed r → (s : OperationSet) → IsSetOfFiles files s → size s ≤ 1_000_000
      → MatchResult r (λ _. Appends old new (encode_utf8_all (text s))) (λ fault. (fault ≡ Device) ⊎ (fault ≡ Memory))
  joined (Ok done) h s of_files limited = subst (λ t. Appends old new (encode_utf8_all (text t))) (outcome.one_set h.1.set s h.1.of_files of_files) h.1.written
  joined (Err fault) (inl h) s of_files limited = inr (not_taken fault s (taking_fault files fault h.0) of_files limited)
  joined (Err fault) (inr h) s of_files limited = inl h.0

  pub faulty_taking : (fault : RunFault) (n : ℕ) (flaw : Flaw) → TakingFault files fault → IsFaultyFile files n flaw → (fault ≡ flaw_fault n flaw) ⊎ (fault ≡ Memory)
  faulty_taking fault n flaw (of_file m other is h) faulty =
      let one = outcome.one_faulty m n other flaw h faulty in
      inl (is ∙ (λ i. flaw_fault (one.0 i) (one.1 i)))
  faulty_taking fault n flaw (of_step refusal is h) faulty = absurd (outcome.spelled_or_faulty h.lists n flaw h.spelled faulty)
  faulty_taking fault n flaw (of_memory is) faulty = inr is

  faulty : (r : Result (Unit {0}) RunFault) → IsTextOutcome files old new failed r → (n : ℕ) (flaw : Flaw) → IsFaultyFile files n flaw → (r ≡ Err (flaw_fault n flaw)) ⊎ (r ≡ Err Memory)
  faulty (Ok done) h n flaw wrong = absurd (outcome.spelled_or_faulty h.1.of_files.lists n flaw h.1.of_files.spelled wrong)
  faulty (Err fault) (inl h) n flaw wrong = one_of_two fault (flaw_fault n flaw) Memory (faulty_taking fault n flaw (taking_fault files fault h.0) wrong)
  faulty (Err fault) (inr h) n flaw wrong = absurd (outcome.spelled_or_faulty h.2.of_files.lists n flaw h.2.of_files.spelled wrong)

  pub refused_taking : (fault : RunFault) (refusal : TakeFault) → TakingFault files fault → AreRefused files refusal → (fault ≡ Step 0 1 refusal) ⊎ (fault ≡ Memory)
  refused_taking fault refusal (of_file n flaw is h) refused = absurd (outcome.spelled_or_faulty refused.lists n flaw refused.spelled h)
  refused_taking fault refusal (of_step other is h) refused = inl (is ∙ ap (λ f. Step 0 1 f) (outcome.one_refusal other refusal h refused))
  refused_taking fault refusal (of_memory is) refused = inr is

  refused : (r : Result (Unit {0}) RunFault) → IsTextOutcome files old new failed r → (refusal : TakeFault) → AreRefused files refusal → (r ≡ Err (Step 0 1 refusal)) ⊎ (r ≡ Err Memory)
  refused (Ok done) h refusal wrong = absurd (outcome.set_or_refusal h.1.set refusal h.1.of_files h.1.limited wrong)
  refused (Err fault) (inl h) refusal wrong = one_of_two fault (Step 0 1 refusal) Memory (refused_taking fault refusal (taking_fault files fault h.0) wrong)
  refused (Err fault) (inr h) refusal wrong = absurd (outcome.set_or_refusal h.2.set refusal h.2.of_files h.2.limited wrong)

  pub text_decided : (r : Result (Unit {0}) RunFault) → IsTextOutcome files old new failed r → IsTextDecided files old new failed r
  text_decided r h = record { device = device r h; joined = joined r h; faulty = faulty r h; refused = refused r h }
