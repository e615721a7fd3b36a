-- What is wrong with a file first: the definition Files, fault.
use Rattle.std.specs.Prelude.{◌≡◌, ◌<◌, ◌+◌, ◌-◌, ◌*◌, ◌/◌, ◌^◌, ◌⊎◌, ◌==◌, ◌||◌, ◌&&◌, not, Bool, List, [], ◌∷◌, ◌++◌, ℕ, length, take, drop, slice_index, Option, Some, None, nat_eq, nat_lt, nat_le, zero, suc, if◌then◌else◌}
use Rattle.std.specs.List.{AllByRecursion, starts_with, list_all}
use Rattle.std.proofs.Math.Utf8.{scalar}
use Rattle.byteorder.specs.Endian.{big_number}
use Rattle.bg_types.specs.Identifier.{Identifier}
use Rattle.bg_types.specs.WellFormed.{IsWellFormed}
use Rattle.bg_types.specs.declared.op.OpView.{OpView}
use Rattle.op_codec.specs.declared.fault.Cause.{Cause}
use Rattle.op_codec.specs.declared.fault.Cause.TheVariants.{BadMagic, BadVersion, Truncated, UnknownKind, BadLength, ZeroField, ParentNotBefore, CounterOverflow, NotAScalar, NotJoined}
use Rattle.op_codec.specs.declared.fault.CodecFault.{CodecFault}
use Rattle.op_codec.specs.declared.fault.CodecFault.TheVariants as faults
use Rattle.op_codec.specs.declared.position.Version.{Version}
use Rattle.op_codec.specs.Spelling.{magic, follows, most_insertions, frames_of, tip_of, spelling_in}

-- the cause of the first test that holds
abbrev pub first_cause : List (Bool × Cause) → Option Cause
first_cause [] = None
first_cause (test ∷ later) = if test.0 then Some test.1 else first_cause later

-- the first cause, or else the second
abbrev pub or_else : Option Cause → Option Cause → Option Cause
or_else (Some first) second = Some first
or_else None second = second

-- what the header shows: a magic byte that differs, among those that are there; a missing byte; a fifth byte other than 1 and 2
abbrev pub header_cause : List ℕ → Option Cause
header_cause bytes = first_cause (
    (not (starts_with nat_eq magic (take 4 bytes)), BadMagic)
    ∷ (nat_lt (length bytes) 5, Truncated)
    ∷ (not (slice_index bytes 4 == 1 || slice_index bytes 4 == 2), BadVersion)
    ∷ [])

-- the identifier in the six bytes at the front
abbrev pub identifier_at : List ℕ → Identifier
identifier_at bytes = record { counter = big_number 4 bytes; site = big_number 2 (drop 4 bytes) }

-- one of the two numbers is 0
abbrev pub has_zero : Identifier → Bool
has_zero id = id.counter == 0 || id.site == 0

-- exactly one of the two numbers is 0
abbrev pub is_half_zero : Identifier → Bool
is_half_zero id = has_zero id && not (id.counter == 0 && id.site == 0)

-- what the fields of a deletion show
abbrev pub erasure_cause : List ℕ → Option Cause
erasure_cause fields = first_cause ((has_zero (identifier_at fields), ZeroField) ∷ [])

-- what the fields of an insertion show
abbrev pub insertion_cause : List ℕ → Option Cause
insertion_cause fields =
    let id = identifier_at fields in
    let parent = identifier_at (drop 6 fields) in
    first_cause (
    (has_zero id || is_half_zero parent, ZeroField)
    ∷ (nat_le id.counter parent.counter, ParentNotBefore)
    ∷ (not (scalar (big_number 4 (drop 12 fields))), NotAScalar)
    ∷ [])

-- what the length of a frame shows, where its kind asks for this length: another length, or fewer bytes than it says
abbrev pub length_cause : ℕ → List ℕ → Option Cause
length_cause wanted bytes = first_cause (
    (not (big_number 2 bytes == wanted), BadLength)
    ∷ (nat_lt (length bytes) (2 + wanted), Truncated)
    ∷ [])

-- this many characters in the bytes at the front, four bytes each
abbrev pub characters_at : ℕ → List ℕ → List ℕ
characters_at zero bytes = []
characters_at (suc n) bytes = big_number 4 bytes ∷ characters_at n (drop 4 bytes)

abbrev pub characters_in : List ℕ → List ℕ
characters_in bytes = characters_at (length bytes / 4) bytes

-- how many insertions a run of this length has
abbrev pub run_count : ℕ → ℕ
run_count size = (size - 13) / 4

-- a run has 2 to 1,024 insertions: its length is 13 plus four for each
abbrev pub is_run_length : ℕ → Bool
is_run_length size = nat_le 2 (run_count size) && nat_le (run_count size) 1024 && (13 + 4 * run_count size == size)

-- what the two identifiers of an insertion show
abbrev pub numbers_cause : List ℕ → Option Cause
numbers_cause fields =
    let id = identifier_at fields in
    let parent = identifier_at (drop 6 fields) in
    first_cause ((has_zero id || is_half_zero parent, ZeroField) ∷ (nat_le id.counter parent.counter, ParentNotBefore) ∷ [])

-- what the fields of a run show: its identifiers first, then its last counter, then its characters
abbrev pub run_cause : List ℕ → Option Cause
run_cause fields =
    let chars = characters_in (drop 12 fields) in
    or_else (numbers_cause fields) (first_cause (
    (nat_lt (2 ^ 32) ((identifier_at fields).counter + length chars), CounterOverflow)
    ∷ (not (list_all scalar chars), NotAScalar)
    ∷ []))

-- what the frame of an insertion shows: its length first, then its fields
abbrev pub insertion_frame_cause : List ℕ → Option Cause
insertion_frame_cause bytes = or_else (length_cause 17 bytes) (insertion_cause (take 16 (drop 3 bytes)))

abbrev pub erasure_frame_cause : List ℕ → Option Cause
erasure_frame_cause bytes = or_else (length_cause 7 bytes) (erasure_cause (take 6 (drop 3 bytes)))

abbrev pub run_frame_cause : List ℕ → Option Cause
run_frame_cause bytes =
    let size = big_number 2 bytes in
    if is_run_length size then or_else (length_cause size bytes) (run_cause (take (size - 1) (drop 3 bytes))) else Some BadLength

-- what a frame of this kind shows; runs are of version 2
abbrev pub kind_cause : Version → ℕ → List ℕ → Option Cause
kind_cause version kind bytes =
    if kind == 1 then insertion_frame_cause bytes
    else (if kind == 2 then erasure_frame_cause bytes
    else (if kind == 3 && nat_lt 1 (most_insertions version) then run_frame_cause bytes else Some UnknownKind))

-- what the frame at the front shows by itself: a missing length or kind, or else what it shows by its kind
abbrev pub frame_cause : Version → List ℕ → Option Cause
frame_cause version bytes = if nat_lt (length bytes) 3 then Some Truncated else kind_cause version (slice_index bytes 2) bytes

-- the whole frame at the front joins what was inserted before it
abbrev pub joined_cause : Option Identifier → List ℕ → Option Cause
joined_cause None bytes = None
joined_cause (Some before) bytes = first_cause ((not (slice_index bytes 2 == 2) && follows before (identifier_at (drop 3 bytes)) (identifier_at (drop 9 bytes)), NotJoined) ∷ [])

-- what the frame at the front shows after this tip
abbrev pub cause_at : Version → Option Identifier → List ℕ → Option Cause
cause_at version before bytes = or_else (frame_cause version bytes) (joined_cause before bytes)

-- frame n shows the cause: the header and n - 1 whole frames stand before it, and what follows them, at least one byte, shows it first
pub record IsFrameFault (bytes : List ℕ) (n : ℕ) (cause : Cause) : Type 0 where
  pub version : Version
  pub ops : List OpView
  pub rest : List ℕ
  pub number : n ≡ length (frames_of (most_insertions version) ops) + 1
  pub before : bytes ≡ spelling_in version ops ++ rest
  pub well_formed : AllByRecursion IsWellFormed ops
  pub goes_on : 0 < length rest
  pub shown : cause_at version (tip_of (most_insertions version) ops) rest ≡ Some cause

-- the first fault of the bytes: in the header, which is frame 0, or in frame n
abbrev pub IsFault : List ℕ → ℕ → Cause → Type 0
IsFault bytes n cause = ((n ≡ 0) × (header_cause bytes ≡ Some cause)) ⊎ IsFrameFault bytes n cause

-- the fault is the first of the bytes; lack of memory says nothing of them
abbrev pub TellsFault : List ℕ → CodecFault → Type 0
TellsFault bytes (faults.Malformed frame cause) = IsFault bytes frame cause
TellsFault bytes faults.Memory = Unit {0}
