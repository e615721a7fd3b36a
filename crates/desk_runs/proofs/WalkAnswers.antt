-- What a run that walks over a grid writes, or why it ended early.
use Rattle.std.proofs.Common.{◌≡◌, ℕ, ◌<◌, ◌≤◌, true, false, Bool, List, length, Option, Some, None, Result, Ok, Err, inr, refl, ap, subst, ◌∙◌}
use Rattle.std.specs.Prelude.{◌≢◌, OnOk, IfOk, IfErr}
use Rattle.std.specs.Str.{chars}
use Rattle.std.specs.Io.KnownBytes.{Appends}
use Rattle.bg_types.specs.Sink.{AppendsBeginning}
use Rattle.ucd_files.specs.Tables.{TableValues}
use Rattle.cell_grid.specs.Grids.{grid_of}
use Rattle.ucd_files.specs.declared.fault.UcdFault.{UcdFault}
use Rattle.ucd_files.specs.declared.fault.UcdFault.TheVariants as ucd
use Rattle.op_codec.specs.declared.fault.CodecFault.TheVariants as codec
use Rattle.desk_files.specs.declared.run_fault.RunFault.{RunFault}
use Rattle.desk_files.specs.declared.run_fault.RunFault.TheVariants.{Tables, File, Schedule, Step, Listing, PastEnd, Device, ReadFailed, Memory, TooLong}
use Rattle.desk_files.specs.Fault.{of_ucd_fault}
use Rattle.desk_files.specs.Cause.{IsTakingCaused}
use Rattle.desk_runs.specs.WalkCause.{IsUnwalked}
use Rattle.desk_runs.specs.Carets.{walk_lines}
use Rattle.desk_files.specs.TextOutcome.{IsTextOfFiles}
use Rattle.desk_runs.specs.CaretsOutcome.{Asked, lines_over, IsWalked, IsWalkCaused, IsCaretsOutcome}

-- a fault of the data files is no failed read
pub tables_unlike_read : (fault : UcdFault) (n : ℕ) → of_ucd_fault fault ≢ ReadFailed n
tables_unlike_read (ucd.At file line cause) n = λ is. absurd cc
tables_unlike_read ucd.Memory n = λ is. absurd cc

module _ (a : Asked) where
  pub tables_walk : (fault : UcdFault) → (fault ≢ ucd.Memory → a.fault ≡ Some fault) → IsWalkCaused a (of_ucd_fault fault)
  tables_walk (ucd.At file line cause) h = h (λ is. absurd cc)
  tables_walk ucd.Memory h = tt

  pub files_walk : (fault : RunFault) → a.fault ≡ None → IsTakingCaused a.files fault → IsWalkCaused a fault
  files_walk (Tables fault) none h = absurd h
  files_walk (File n (codec.Malformed frame cause)) none h = (none, h)
  files_walk (File n codec.Memory) none h = h
  files_walk (Schedule line fault) none h = h
  files_walk (Step line desk fault) none h = (none, h.0, h.1, h.2)
  files_walk (Listing line fault) none h = h
  files_walk (PastEnd place) none h = absurd h
  files_walk Device none h = h
  files_walk (ReadFailed file) none h = h
  files_walk Memory none h = tt
  files_walk (TooLong n) none h = (none, h)

  text_walk : (fault : RunFault) (bytes : List ℕ) → a.fault ≡ None → IsTextOfFiles a.files bytes → IsUnwalked bytes a.place fault → IsWalkCaused a fault
  text_walk (Tables fault) bytes none read h = absurd h
  text_walk (File n (codec.Malformed frame cause)) bytes none read h = absurd h
  text_walk (File n codec.Memory) bytes none read h = h
  text_walk (Schedule line fault) bytes none read h = h
  text_walk (Step line desk fault) bytes none read h = absurd h
  text_walk (Listing line fault) bytes none read h = h
  text_walk (PastEnd place) bytes none read h = (
    h.0,
    record {
      set = read.set;
      read = record { tables = none; of_files = read.of_files; limited = read.limited };
      past = subst (λ (b : List ℕ). length (chars b) < a.place) read.is h.1;
    },
  )
  text_walk Device bytes none read h = h
  text_walk (ReadFailed file) bytes none read h = h
  text_walk Memory bytes none read h = tt
  text_walk (TooLong file) bytes none read h = absurd h

  pub err_walk : {A : Type 0} (r : Result A RunFault) (bytes : List ℕ) → a.fault ≡ None → IsTextOfFiles a.files bytes → IfErr r (IsUnwalked bytes a.place) → IfErr r (IsWalkCaused a)
  err_walk (Ok x) bytes none read h = tt
  err_walk (Err fault) bytes none read h = text_walk fault bytes none read h

  pub ok_walk : {A : Type 0} (bytes_in : A → List ℕ) (r : Result A RunFault) (bytes : List ℕ) (tables : TableValues) → tables ≡ a.tables → a.fault ≡ None → IsTextOfFiles a.files bytes
      → OnOk r (a.place ≤ length (chars bytes)) → IfOk r (λ x. bytes_in x ≡ walk_lines (grid_of tables a.width a.base bytes) a.place a.moves) → IfOk r (λ x. IsWalked a (bytes_in x))
  ok_walk bytes_in (Ok x) bytes tables loaded none read within is = record {
    set = read.set;
    read = record { tables = none; of_files = read.of_files; limited = read.limited };
    within = subst (λ (b : List ℕ). a.place ≤ length (chars b)) read.is within;
    is = is ∙ ap (λ t. walk_lines (grid_of t a.width a.base bytes) a.place a.moves) loaded ∙ ap (lines_over a) read.is;
  }
  ok_walk bytes_in (Err fault) bytes tables loaded none read within is = tt

  -- ---- what is written

  module _ (old new : Option (List ℕ)) (failed : Bool) (bytes : List ℕ) (walked : IsWalked a bytes) where
    pub lines_written : failed ≡ false → Appends old new bytes → IsCaretsOutcome a old new failed (Ok tt)
    lines_written working h = (working, record { set = walked.set; read = walked.read; within = walked.within; written = subst (Appends old new) walked.is h })

    pub lines_begun : failed ≡ true → AppendsBeginning old new bytes → IsCaretsOutcome a old new failed (Err Device)
    lines_begun failing h = inr (refl, failing, record { set = walked.set; read = walked.read; within = walked.within; written = subst (AppendsBeginning old new) walked.is h })
