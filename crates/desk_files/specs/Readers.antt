-- What readers give of operation files, and what a run over readers comes to.
use Rattle.std.specs.Prelude.{◌≡◌, ◌≤◌, ◌+◌, ◌⊎◌, true, false, Bool, ℕ, List, ◌∷◌, ◌++◌, length, Option, Some, None, Result, Err}
use Rattle.std.specs.List.{AllZip, AllByRecursion}
use Rattle.bg_types.specs.declared.op.OpView.{OpView}
use Rattle.std.specs.Io.KnownBytes.{Consumes}
use Rattle.op_codec.specs.Source.{greatest_piece}
use Rattle.op_codec.specs.Feed.{IsSound}
use Rattle.desk_files.specs.declared.run_fault.RunFault.{RunFault}
use Rattle.desk_files.specs.declared.run_fault.RunFault.TheVariants.{ReadFailed, Memory}
use Rattle.desk_files.specs.Reading.{limit, IsReadAs, Flaw, IsFlawed, flaw_fault}

-- ---- one reader, by what is still to come of it before the run, and what it has left after it

-- these are its bytes. Where they are not known, as of a file, or have no end, they can be any
abbrev pub Tells : Option (List ℕ) → List ℕ → Type 0
Tells None file = Unit {0}
Tells (Some bytes) file = file ≡ bytes

-- it was asked for bytes that are within the limit and show no fault, and then for one piece more at most
pub record IsAsked (before after : Option (List ℕ)) : Type 0 where
  pub sound : List ℕ
  pub piece : List ℕ
  pub given : Consumes before after (sound ++ piece)
  pub within : length sound ≤ limit
  pub faultless : IsSound sound
  pub one : length piece ≤ greatest_piece

-- it gave these bytes and no others, which are within the limit and show no fault, and then it failed
pub record IsBroken (before after : Option (List ℕ)) : Type 0 where
  pub given : List ℕ
  pub consumed : Consumes before after given
  pub within : length given ≤ limit
  pub faultless : IsSound given

-- its bytes are a file that is read as these operations
pub record IsToldFile (reader : Option (List ℕ)) (ops : List OpView) : Type 0 where
  pub file : List ℕ
  pub told : Tells reader file
  pub read : IsReadAs file ops

-- its bytes are a file with this flaw
pub record IsFlawedFile (reader : Option (List ℕ)) (flaw : Flaw) : Type 0 where
  pub file : List ℕ
  pub told : Tells reader file
  pub flawed : IsFlawed file flaw

-- why file n, from 1, is not read, and whether its reader has failed
pub data IsUnreadFile (n : ℕ) (before after : Option (List ℕ)) (failed : Bool) (fault : RunFault) : Type 0 where
  is_flawed : (flaw : Flaw) → fault ≡ flaw_fault n flaw → failed ≡ false → IsFlawedFile before flaw → IsUnreadFile n before after failed fault
  is_broken : fault ≡ ReadFailed n → failed ≡ true → IsBroken before after → IsUnreadFile n before after failed fault
  lacks_memory : fault ≡ Memory → failed ≡ false → IsUnreadFile n before after failed fault

-- ---- a list of readers, what each has left after the run, and which of them have failed

-- none has failed
abbrev pub AreWorking : List Bool → Type 0
AreWorking failed = AllByRecursion (λ f. f ≡ false) failed

-- number n, from 1, has failed, and no other
pub record HasFailedAlone (failed : List Bool) (n : ℕ) : Type 0 where
  pub before : List Bool
  pub after : List Bool
  pub in_order : failed ≡ before ++ true ∷ after
  pub number : n ≡ length before + 1
  pub working_before : AreWorking before
  pub working_after : AreWorking after

-- no reader was asked for more than one piece past the limit or past a fault
abbrev pub AreAsked : (readers left : List (Option (List ℕ))) → Type 0
AreAsked readers left = AllZip IsAsked readers left

-- reader n, from 1, has failed, after the files before it were read; those after it were not asked
pub record IsLost (readers left : List (Option (List ℕ))) (failed : List Bool) (n : ℕ) : Type 0 where
  pub before : List (Option (List ℕ))
  pub reader : Option (List ℕ)
  pub after : List (Option (List ℕ))
  pub in_order : readers ≡ before ++ reader ∷ after
  pub number : n ≡ length before + 1
  pub files : List (List ℕ)
  pub lists : List (List OpView)
  pub told : AllZip Tells before files
  pub spelled : AllZip IsReadAs files lists
  pub read : List (Option (List ℕ))
  pub rest : Option (List ℕ)
  pub left_so : left ≡ read ++ rest ∷ after
  pub as_many : length read ≡ length before
  pub broken : IsBroken reader rest
  pub alone : HasFailedAlone failed n

-- no reader has failed, and this holds of the files that they give
pub record AreGiven (readers : List (Option (List ℕ))) (failed : List Bool) (holds : List (List ℕ) → Type 0) : Type 0 where
  pub files : List (List ℕ)
  pub told : AllZip Tells readers files
  pub working : AreWorking failed
  pub so : holds files

-- a part of a run ended early: reader n has failed, or the fault has its cause in the files that the readers give
abbrev pub EndsOver : (readers left : List (Option (List ℕ))) (failed : List Bool) → (List (List ℕ) → RunFault → Type 0) → RunFault → Type 0
EndsOver readers left failed caused fault =
    ((n : ℕ) × (fault ≡ ReadFailed n) × IsLost readers left failed n) ⊎ AreGiven readers failed (λ files. caused files fault)

-- the outcome of a run over readers: reader n has failed, and the run came no further than this; or none has, and the run has an
-- outcome over the files that they give
abbrev pub IsRunOver : {T : Type 0} → (readers left : List (Option (List ℕ))) (failed : List Bool) (cut : Type 0) → (List (List ℕ) → Result T RunFault → Type 0) → Result T RunFault → Type 0
IsRunOver readers left failed cut outcome result =
    ((n : ℕ) × (result ≡ Err (ReadFailed n)) × IsLost readers left failed n × cut) ⊎ AreGiven readers failed (λ files. outcome files result)

-- the same over readers that give these files: a reader has failed, and no other, or the run has the outcome of a run over
-- files of these bytes
abbrev pub IsFileOutcome : {T : Type 0} → (failed : List Bool) (cut : Type 0) → (Result T RunFault → Type 0) → Result T RunFault → Type 0
IsFileOutcome failed cut outcome result = ((n : ℕ) × (result ≡ Err (ReadFailed n)) × HasFailedAlone failed n × cut) ⊎ outcome result
