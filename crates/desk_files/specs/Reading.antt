-- What a run reads of an operation file: no more than its limit, and what is wrong with it first.
use Rattle.std.specs.Prelude.{◌≡◌, ◌≢◌, ◌<◌, ◌≤◌, ◌+◌, ℕ, List, ◌++◌, length, take}
use Rattle.bg_types.specs.declared.op.OpView.{OpView}
use Rattle.op_codec.specs.declared.fault.Cause.{Cause}
use Rattle.op_codec.specs.declared.fault.Cause.TheVariants.{Truncated}
use Rattle.op_codec.specs.declared.fault.CodecFault.TheVariants as codec
use Rattle.op_codec.specs.Spelling.{Spells}
use Rattle.op_codec.specs.Fault.{IsFault}
use Rattle.op_codec.specs.Feed.{IsSound}
use Rattle.desk_files.specs.declared.run_fault.RunFault.{RunFault}
use Rattle.desk_files.specs.declared.run_fault.RunFault.TheVariants.{File, TooLong}

-- the greatest length of an operation file, in bytes
abbrev pub limit : ℕ
limit = 67_108_864

-- the file is within the limit, and spells these operations
pub record IsReadAs (file : List ℕ) (ops : List OpView) : Type 0 where
  pub spelled : Spells file ops
  pub within : length file ≤ limit

-- what can be wrong with a file: a fault of its bytes, with its frame, or its length
pub data Flaw : Type 0 where
  malformed : (frame : ℕ) (cause : Cause) → Flaw
  too_long : Flaw

-- this is wrong with the file first. A fault stands in the bytes up to the limit; where more follow, no byte is missing there,
-- and a file that shows no other fault up to the limit is too long
abbrev pub IsFlawed : List ℕ → Flaw → Type 0
IsFlawed file (malformed frame cause) = IsFault (take limit file) frame cause × (limit < length file → cause ≢ Truncated)
IsFlawed file too_long = (limit < length file) × IsSound (take limit file)

-- the answer of a run to what is wrong with file n, from 1
abbrev pub flaw_fault : ℕ → Flaw → RunFault
flaw_fault n (malformed frame cause) = File n (codec.Malformed frame cause)
flaw_fault n too_long = TooLong n

-- the answer to what these bytes show of file n, whatever follows them
pub record IsFlawedBy (bytes : List ℕ) (n : ℕ) (fault : RunFault) : Type 0 where
  pub flaw : Flaw
  pub is : fault ≡ flaw_fault n flaw
  pub whatever : (rest : List ℕ) → IsFlawed (bytes ++ rest) flaw

-- these bytes of a file show no fault, and it may still have `left` more
pub record IsSoundTo (bytes : List ℕ) (left : ℕ) : Type 0 where
  pub sum : length bytes + left ≡ limit
  pub sound : IsSound bytes
