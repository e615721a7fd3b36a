-- What a run of `typed` writes and answers.
use Rattle.std.specs.Prelude.{◌≡◌, ◌⊎◌, true, false, Bool, ℕ, List, Option, Result, Ok, Err}
use Rattle.std.specs.Str.{chars, IsUtf8}
use Rattle.std.specs.Str.Lossy.{utf8_valid_len}
use Rattle.std.specs.Io.KnownBytes.{Appends}
use Rattle.bg_types.specs.OperationSet.{OperationSet}
use Rattle.bg_types.specs.Sink.{AppendsBeginning}
use Rattle.op_codec.specs.declared.position.Version.{Version}
use Rattle.op_codec.specs.Spelling.{SpellsIn}
use Rattle.desk_files.specs.declared.run_fault.RunFault.TheVariants.{Device}
use Rattle.desk_files.specs.Readers.{AreWorking, AreGiven, EndsOver}
use Rattle.desk_files.specs.Files.{IsSetOfFiles}
use Rattle.desk_files.specs.Cause.{IsTakingCaused}
use Rattle.desk_files.specs.Written.{IsSilent}
use Rattle.desk_runs.specs.declared.change.Change.{Change}
use Rattle.desk_runs.specs.declared.typing_fault.TypingFault.{TypingFault}
use Rattle.desk_runs.specs.declared.typing_fault.TypingFault.TheVariants.{NotUtf8, Run, PastEnd, Full, CounterSpent}
use Rattle.desk_runs.specs.Changing.{operations_of, Fits, IsUnfit}

-- the file spells, in this version, what a site whose desk has all operations of the files makes by typing this text, in UTF-8
pub record IsTypedFile (version : Version) (files : List (List ℕ)) (change : Change) (text file : List ℕ) : Type 0 where
  pub set : OperationSet
  pub of_files : IsSetOfFiles files set
  pub utf8 : IsUtf8 text
  pub fits : Fits set change (chars text)
  pub spelled : SpellsIn version file (operations_of set change (chars text))

-- the text is UTF-8, and the change does not fit the set of all operations of the files
pub record IsUnfitFor (files : List (List ℕ)) (change : Change) (text : List ℕ) (fault : TypingFault) : Type 0 where
  pub set : OperationSet
  pub of_files : IsSetOfFiles files set
  pub utf8 : IsUtf8 text
  pub unfit : IsUnfit set change (chars text) fault

-- why there is no file, by what each reader still has to give, what it has left and which have failed. The text is looked at first, then the
-- files, then the change. Lack of memory has no cause
abbrev pub IsUntyped : (readers left : List (Option (List ℕ))) (lost : List Bool) → Change → (text : List ℕ) → TypingFault → Type 0
IsUntyped readers left lost change text (NotUtf8 byte) = AreWorking lost × (¬ (IsUtf8 text)) × (byte ≡ utf8_valid_len text)
IsUntyped readers left lost change text (Run fault) = IsUtf8 text × EndsOver readers left lost IsTakingCaused fault
IsUntyped readers left lost change text (PastEnd place erased) = AreGiven readers lost (λ files. IsUnfitFor files change text (PastEnd place erased))
IsUntyped readers left lost change text Full = AreGiven readers lost (λ files. IsUnfitFor files change text Full)
IsUntyped readers left lost change text CounterSpent = AreGiven readers lost (λ files. IsUnfitFor files change text CounterSpent)

-- the written bytes grew by the file of the change
pub record WritesTyped (version : Version) (files : List (List ℕ)) (change : Change) (text : List ℕ) (old new : Option (List ℕ)) : Type 0 where
  pub file : List ℕ
  pub is_typed : IsTypedFile version files change text file
  pub written : Appends old new file

-- the written bytes grew by a beginning of that file
pub record WritesTypedBeginning (version : Version) (files : List (List ℕ)) (change : Change) (text : List ℕ) (old new : Option (List ℕ)) : Type 0 where
  pub file : List ℕ
  pub is_typed : IsTypedFile version files change text file
  pub written : AppendsBeginning old new file

-- the outcome of a run over readers, by its answer: the file of the change is written; or nothing, where there is none; or a
-- beginning of it, for a failed write
abbrev pub IsTypedOutcome : Version → (readers left : List (Option (List ℕ))) (lost : List Bool) → Change → (text : List ℕ) (old new : Option (List ℕ)) (failed : Bool) → Result (Unit {0}) TypingFault → Type 0
IsTypedOutcome version readers left lost change text old new failed (Ok done) = (failed ≡ false) × AreGiven readers lost (λ files. WritesTyped version files change text old new)
IsTypedOutcome version readers left lost change text old new failed (Err fault) =
    (IsUntyped readers left lost change text fault × IsSilent old new failed)
    ⊎ ((fault ≡ Run Device) × (failed ≡ true) × AreGiven readers lost (λ files. WritesTypedBeginning version files change text old new))
