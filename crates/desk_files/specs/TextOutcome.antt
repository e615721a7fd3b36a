-- What a run of `text` writes and answers.
use Rattle.std.specs.Prelude.{◌≡◌, ◌≤◌, ◌⊎◌, ◌↔◌, true, false, Bool, ℕ, List, Option, Result, Ok, Err, MatchResult, encode_utf8_all}
use Rattle.std.specs.Io.KnownBytes.{Appends}
use Rattle.bg_types.specs.OperationSet.{OperationSet, size}
use Rattle.bg_types.specs.Sink.{AppendsBeginning}
use Rattle.rga_tree.specs.TextOf.{text}
use Rattle.desk_replica.specs.declared.answer.TakeFault.{TakeFault}
use Rattle.desk_files.specs.declared.run_fault.RunFault.{RunFault}
use Rattle.desk_files.specs.declared.run_fault.RunFault.TheVariants.{Step, Device, Memory}
use Rattle.desk_files.specs.Reading.{Flaw, flaw_fault}
use Rattle.desk_files.specs.Readers.{IsRunOver}
use Rattle.desk_files.specs.Files.{IsSetOfFiles, IsFaultyFile, AreRefused}
use Rattle.desk_files.specs.Cause.{IsTakingCaused}
use Rattle.desk_files.specs.Written.{IsSilent}

-- the text of a set in UTF-8
abbrev pub text_bytes : OperationSet → List ℕ
text_bytes s = encode_utf8_all (text s)

-- these bytes are the text of all operations of the files, at most 1,000,000
pub record IsTextOfFiles (files : List (List ℕ)) (bytes : List ℕ) : Type 0 where
  pub set : OperationSet
  pub of_files : IsSetOfFiles files set
  pub limited : size set ≤ 1_000_000
  pub is : bytes ≡ text_bytes set

-- the written bytes grew by the text of all operations of the files, at most 1,000,000
pub record WritesText (files : List (List ℕ)) (old new : Option (List ℕ)) : Type 0 where
  pub set : OperationSet
  pub of_files : IsSetOfFiles files set
  pub limited : size set ≤ 1_000_000
  pub written : Appends old new (encode_utf8_all (text set))

-- the written bytes grew by a beginning of that text
pub record WritesTextBeginning (files : List (List ℕ)) (old new : Option (List ℕ)) : Type 0 where
  pub set : OperationSet
  pub of_files : IsSetOfFiles files set
  pub limited : size set ≤ 1_000_000
  pub written : AppendsBeginning old new (encode_utf8_all (text set))

-- the outcome of a run over files of these bytes, by its answer: the text is written; or nothing, for a faulty file, a refused
-- operation or lack of memory; or a beginning of the text, for a failed write
abbrev pub IsTextOutcome : (files : List (List ℕ)) (old new : Option (List ℕ)) (failed : Bool) → Result (Unit {0}) RunFault → Type 0
IsTextOutcome files old new failed (Ok done) = (failed ≡ false) × WritesText files old new
IsTextOutcome files old new failed (Err fault) =
    (IsTakingCaused files fault × IsSilent old new failed) ⊎ ((fault ≡ Device) × (failed ≡ true) × WritesTextBeginning files old new)

-- the outcome of a run over readers, by what is still to come of each, what it has left, and which have failed
abbrev pub IsTextOutcomeOver : (readers left : List (Option (List ℕ))) (lost : List Bool) (old new : Option (List ℕ)) (failed : Bool) → Result (Unit {0}) RunFault → Type 0
IsTextOutcomeOver readers left lost old new failed result = IsRunOver readers left lost (IsSilent old new failed) (λ files. IsTextOutcome files old new failed) result

-- which answer the files have, unless memory runs out, or a write of the text fails
pub record IsTextDecided (files : List (List ℕ)) (old new : Option (List ℕ)) (failed : Bool) (result : Result (Unit {0}) RunFault) : Type 0 where
  pub device : (failed ≡ true) ↔ (result ≡ Err Device)
  pub joined : (s : OperationSet) → IsSetOfFiles files s → size s ≤ 1_000_000
      → MatchResult result (λ _. Appends old new (encode_utf8_all (text s))) (λ fault. (fault ≡ Device) ⊎ (fault ≡ Memory))
  pub faulty : (n : ℕ) (flaw : Flaw) → IsFaultyFile files n flaw → (result ≡ Err (flaw_fault n flaw)) ⊎ (result ≡ Err Memory)
  pub refused : (fault : TakeFault) → AreRefused files fault → (result ≡ Err (Step 0 1 fault)) ⊎ (result ≡ Err Memory)
