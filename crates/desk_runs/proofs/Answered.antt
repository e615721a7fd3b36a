-- What a run answers where there is a file of the change, and where there is none.
use Rattle.std.proofs.Common.{◌≡◌, inr, Bool, ℕ, List, Option, Result, Ok, Err, sym, subst}
use Rattle.std.specs.Prelude.{OnOk, IfOk, IfErr}
use Rattle.std.specs.Str.{chars, IsUtf8}
use Rattle.bg_types.specs.OperationSet.{OperationSet}
use Rattle.op_codec.specs.declared.position.Version.{Version}
use Rattle.op_codec.specs.Spelling.{SpellsIn}
use Rattle.desk_files.specs.declared.run_fault.RunFault.TheVariants.{Memory}
use Rattle.desk_files.specs.Readers.{AreGiven}
use Rattle.desk_files.specs.Files.{IsSetOfFiles}
use Rattle.desk_files.specs.Cause.{IsTakingCaused}
use Rattle.desk_files.proofs.Interface.{told_so}
use Rattle.desk_runs.specs.declared.change.Change.{Change}
use Rattle.desk_runs.specs.declared.typing_fault.TypingFault.{TypingFault}
use Rattle.desk_runs.specs.declared.typing_fault.TypingFault.TheVariants.{NotUtf8, Run, PastEnd, Full, CounterSpent}
use Rattle.desk_runs.specs.Changing.{operations_of, Fits, IsUnfit}
use Rattle.desk_runs.specs.TypedOutcome.{IsTypedFile, IsUnfitFor, IsUntyped}

module _ (readers : List (Option (List ℕ))) (lost : List Bool) (change : Change) (text : List ℕ) (utf8 : IsUtf8 text) (s : OperationSet) (told : AreGiven readers lost (λ files. IsSetOfFiles files s)) where
  lacking : (left : List (Option (List ℕ))) → IsUntyped readers left lost change text (Run Memory)
  lacking left = (utf8, inr (told_so readers lost (λ files. IsSetOfFiles files s) (λ files. IsTakingCaused files Memory) (λ files h. tt) told))

  unfit_for : (fault : TypingFault) → IsUnfit s change (chars text) fault → AreGiven readers lost (λ files. IsUnfitFor files change text fault)
  unfit_for fault h = told_so readers lost (λ files. IsSetOfFiles files s) (λ files. IsUnfitFor files change text fault) (λ files of_files. record { set = s; of_files = of_files; utf8 = utf8; unfit = h }) told

  unfit : (left : List (Option (List ℕ))) (fault : TypingFault) → IsUnfit s change (chars text) fault → IsUntyped readers left lost change text fault
  unfit left (NotUtf8 byte) h = absurd h
  unfit left (Run fault) h = subst (λ f. IsUntyped readers left lost change text (Run f)) (sym h) (lacking left)
  unfit left (PastEnd place erased) h = unfit_for (PastEnd place erased) h
  unfit left Full h = unfit_for Full h
  unfit left CounterSpent h = unfit_for CounterSpent h

  pub made : {A : Type 0} (items : A → List ℕ) (version : Version) (r : Result A TypingFault) → OnOk r (Fits s change (chars text))
      → IfOk r (λ file. SpellsIn version (items file) (operations_of s change (chars text))) → IfOk r (λ file. AreGiven readers lost (λ files. IsTypedFile version files change text (items file)))
  made items version (Ok file) fits spelled =
      told_so readers lost (λ files. IsSetOfFiles files s) (λ files. IsTypedFile version files change text (items file)) (λ files of_files. record { set = s; of_files = of_files; utf8 = utf8; fits = fits; spelled = spelled }) told
  made items version (Err fault) fits spelled = tt

  pub not_made : {A : Type 0} (left : List (Option (List ℕ))) (r : Result A TypingFault) → IfErr r (IsUnfit s change (chars text)) → IfErr r (IsUntyped readers left lost change text)
  not_made left (Ok file) h = tt
  not_made left (Err fault) h = unfit left fault h

-- ---- the bytes of a text are the text

module _ {A : Type 0} (readers : List (Option (List ℕ))) (lost : List Bool) (change : Change) (words text : List ℕ) (same : words ≡ text) (r : Result A TypingFault) where
  pub made_of : (items : A → List ℕ) (version : Version) → IfOk r (λ file. AreGiven readers lost (λ files. IsTypedFile version files change words (items file))) → IfOk r (λ file. AreGiven readers lost (λ files. IsTypedFile version files change text (items file)))
  made_of items version h = subst (λ (t : List ℕ). IfOk r (λ file. AreGiven readers lost (λ files. IsTypedFile version files change t (items file)))) same h

  pub not_made_of : (left : List (Option (List ℕ))) → IfErr r (IsUntyped readers left lost change words) → IfErr r (IsUntyped readers left lost change text)
  not_made_of left h = subst (λ (t : List ℕ). IfErr r (IsUntyped readers left lost change t)) same h
