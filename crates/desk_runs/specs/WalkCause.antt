-- Why a walk over a text ended before its first line. Each fault comes only where its cause is present, and lack of memory
-- has none.
use Rattle.std.specs.Prelude.{◌≡◌, ◌<◌, ℕ, List, length}
use Rattle.std.specs.Str.{chars}
use Rattle.desk_files.specs.declared.run_fault.RunFault.{RunFault}
use Rattle.desk_files.specs.declared.run_fault.RunFault.TheVariants.{Tables, File, Schedule, Step, Listing, Device, PastEnd, ReadFailed, Memory, TooLong}

-- the place is beyond the text
abbrev pub IsUnwalked : List ℕ → (place : ℕ) → RunFault → Type 0
IsUnwalked bytes place (Tables fault) = ⊥
IsUnwalked bytes place (File n fault) = ⊥
IsUnwalked bytes place (Schedule line fault) = ⊥
IsUnwalked bytes place (Step line desk fault) = ⊥
IsUnwalked bytes place (Listing line fault) = ⊥
IsUnwalked bytes place Device = ⊥
IsUnwalked bytes place (PastEnd at) = (at ≡ place) × (length (chars bytes) < place)
IsUnwalked bytes place (ReadFailed file) = ⊥
IsUnwalked bytes place (TooLong file) = ⊥
IsUnwalked bytes place Memory = Unit {0}
