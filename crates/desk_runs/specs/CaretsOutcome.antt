-- What a run of `carets` is given, and what it writes and answers.
use Rattle.std.specs.Prelude.{◌≡◌, ◌<◌, ◌≤◌, ◌⊎◌, ◌↔◌, true, false, Bool, ℕ, List, length, Option, Some, None, Result, Ok, Err, MatchResult}
use Rattle.std.specs.Str.{chars}
use Rattle.std.specs.Io.KnownBytes.{Appends}
use Rattle.bg_types.specs.OperationSet.{OperationSet, size}
use Rattle.bg_types.specs.Sink.{AppendsBeginning}
use Rattle.bg_types.specs.declared.class.Base.{Base}
use Rattle.ucd_files.specs.declared.fault.UcdFault.{UcdFault}
use Rattle.ucd_files.specs.Tables.{TableValues}
use Rattle.ucd_files.specs.Ucd.{tables_of_ucd, fault_of_ucd}
use Rattle.ucd_files.specs.declared.files.Ucd.{Ucd}
use Rattle.op_codec.specs.declared.fault.CodecFault.TheVariants as codec
use Rattle.desk_replica.specs.declared.answer.TakeFault.{TakeFault}
use Rattle.cell_grid.specs.Grids.{grid_of}
use Rattle.desk_files.specs.declared.run_fault.RunFault.{RunFault}
use Rattle.desk_files.specs.declared.run_fault.RunFault.TheVariants.{Tables, File, Schedule, Step, Listing, PastEnd, Device, ReadFailed, Memory, TooLong}
use Rattle.caret.specs.declared.moves.Move.{Move}
use Rattle.desk_runs.specs.Carets.{walk_lines}
use Rattle.desk_files.specs.Reading.{Flaw, malformed, too_long, flaw_fault}
use Rattle.desk_files.specs.Readers.{IsRunOver}
use Rattle.desk_files.specs.Files.{IsSetOfFiles, IsFaultyFile, AreRefused}
use Rattle.desk_files.specs.Written.{IsSilent}
use Rattle.desk_files.specs.TextOutcome.{text_bytes}

-- what a run is given: the first fault of its data files, if any, what they say of each code point, the width in columns,
-- the base direction, the bytes of the operation files, the place and the moves
pub record Asked : Type 0 where
  pub fault : Option UcdFault
  pub tables : TableValues
  pub width : ℕ
  pub base : Base
  pub files : List (List ℕ)
  pub place : ℕ
  pub moves : List Move

abbrev pub asked : Ucd → ℕ → Base → List (List ℕ) → ℕ → List Move → Asked
asked ucd width base files place moves = record {
  fault = fault_of_ucd ucd;
  tables = tables_of_ucd ucd;
  width = width;
  base = base;
  files = files;
  place = place;
  moves = moves;
}

-- the lines of a walk over the grid of a text
abbrev pub lines_over : Asked → List ℕ → List ℕ
lines_over a bytes = walk_lines (grid_of a.tables a.width a.base bytes) a.place a.moves

-- the data files have no fault, and S is the set of all operations of the files, at most 1,000,000
pub record IsRead (a : Asked) (s : OperationSet) : Type 0 where
  pub tables : a.fault ≡ None
  pub of_files : IsSetOfFiles a.files s
  pub limited : size s ≤ 1_000_000

-- these are the lines of the walk over the grid of the set's text, which has the place
pub record IsWalked (a : Asked) (lines : List ℕ) : Type 0 where
  pub set : OperationSet
  pub read : IsRead a set
  pub within : a.place ≤ length (chars (text_bytes set))
  pub is : lines ≡ lines_over a (text_bytes set)

-- the written bytes grew by the lines of the walk over the grid of the set's text, which has the place
pub record WritesLines (a : Asked) (old new : Option (List ℕ)) : Type 0 where
  pub set : OperationSet
  pub read : IsRead a set
  pub within : a.place ≤ length (chars (text_bytes set))
  pub written : Appends old new (lines_over a (text_bytes set))

-- the written bytes grew by a beginning of those lines
pub record WritesLinesBeginning (a : Asked) (old new : Option (List ℕ)) : Type 0 where
  pub set : OperationSet
  pub read : IsRead a set
  pub within : a.place ≤ length (chars (text_bytes set))
  pub written : AppendsBeginning old new (lines_over a (text_bytes set))

-- the place is above the number of code points of the set's text
pub record IsBeyondText (a : Asked) : Type 0 where
  pub set : OperationSet
  pub read : IsRead a set
  pub past : length (chars (text_bytes set)) < a.place

-- there are no lines: the first fault of the data files, else of the operation files, else a step of desk 1 without a
-- schedule, which is line 0, else the place. Lack of memory has no cause
abbrev pub IsWalkCaused : Asked → RunFault → Type 0
IsWalkCaused a (Tables fault) = a.fault ≡ Some fault
IsWalkCaused a (File n (codec.Malformed frame cause)) = (a.fault ≡ None) × IsFaultyFile a.files n (malformed frame cause)
IsWalkCaused a (File n codec.Memory) = ⊥
IsWalkCaused a (Schedule line fault) = ⊥
IsWalkCaused a (Step line desk fault) = (a.fault ≡ None) × (line ≡ 0) × (desk ≡ 1) × AreRefused a.files fault
IsWalkCaused a (Listing line fault) = ⊥
IsWalkCaused a (PastEnd place) = (place ≡ a.place) × IsBeyondText a
IsWalkCaused a Device = ⊥
IsWalkCaused a (ReadFailed file) = ⊥
IsWalkCaused a (TooLong n) = (a.fault ≡ None) × IsFaultyFile a.files n too_long
IsWalkCaused a Memory = Unit {0}

-- the outcome of a run, by its answer: the lines are written; or nothing, where there are none; or a beginning of them, for a
-- failed write
abbrev pub IsCaretsOutcome : Asked → (old new : Option (List ℕ)) (failed : Bool) → Result (Unit {0}) RunFault → Type 0
IsCaretsOutcome a old new failed (Ok done) = (failed ≡ false) × WritesLines a old new
IsCaretsOutcome a old new failed (Err fault) =
    (IsWalkCaused a fault × IsSilent old new failed) ⊎ ((fault ≡ Device) × (failed ≡ true) × WritesLinesBeginning a old new)

-- nothing is written, and the data files are right, which come first, whatever the operation files are
abbrev pub IsCut : (List (List ℕ) → Asked) → (old new : Option (List ℕ)) (failed : Bool) → Type 0
IsCut asks old new failed = IsSilent old new failed × ((files : List (List ℕ)) → (asks files).fault ≡ None)

-- the outcome of a run over readers, by what is still to come of each, what it has left, and which have failed, where the files
-- that they give are asked in this way
abbrev pub IsCaretsOutcomeOver : (readers left : List (Option (List ℕ))) (lost : List Bool) → (List (List ℕ) → Asked) → (old new : Option (List ℕ)) (failed : Bool) → Result (Unit {0}) RunFault → Type 0
IsCaretsOutcomeOver readers left lost asks old new failed result = IsRunOver readers left lost (IsCut asks old new failed) (λ files. IsCaretsOutcome (asks files) old new failed) result

-- which answer the data has, unless memory runs out, or a write of the lines fails
pub record IsCaretsDecided (a : Asked) (old new : Option (List ℕ)) (failed : Bool) (result : Result (Unit {0}) RunFault) : Type 0 where
  pub device : (failed ≡ true) ↔ (result ≡ Err Device)
  pub walked : (s : OperationSet) → IsRead a s → a.place ≤ length (chars (text_bytes s))
      → MatchResult result (λ _. Appends old new (lines_over a (text_bytes s))) (λ fault. (fault ≡ Device) ⊎ (fault ≡ Memory))
  pub past : (s : OperationSet) → IsRead a s → length (chars (text_bytes s)) < a.place
      → (result ≡ Err (PastEnd a.place)) ⊎ (result ≡ Err Memory)
  pub tables : (fault : UcdFault) → a.fault ≡ Some fault → (result ≡ Err (Tables fault)) ⊎ (result ≡ Err Memory)
  pub faulty : (n : ℕ) (flaw : Flaw) → a.fault ≡ None → IsFaultyFile a.files n flaw → (result ≡ Err (flaw_fault n flaw)) ⊎ (result ≡ Err Memory)
  pub refused : (fault : TakeFault) → a.fault ≡ None → AreRefused a.files fault
      → (result ≡ Err (Step 0 1 fault)) ⊎ (result ≡ Err Memory)
