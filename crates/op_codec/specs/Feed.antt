-- Files that are read piece by piece.
use Rattle.std.specs.Prelude.{◌≡◌, ◌≢◌, ◌≤◌, ◌+◌, ◌⊎◌, false, List, [], ◌∷◌, ◌++◌, ℕ, length, drop, Option, Some, None, option_map, IfSome, Result, Ok, Err}
use Rattle.std.specs.List.{AllByRecursion}
use Rattle.bg_types.specs.WellFormed.{IsWellFormed}
use Rattle.bg_types.specs.declared.op.OpView.{OpView}
use Rattle.op_codec.specs.declared.fault.Cause.{Cause}
use Rattle.op_codec.specs.declared.fault.Cause.TheVariants.{Truncated}
use Rattle.op_codec.specs.declared.fault.CodecFault.{CodecFault}
use Rattle.op_codec.specs.declared.fault.CodecFault.TheVariants.{Malformed, Memory}
use Rattle.op_codec.specs.declared.position.Version.{Version}
use Rattle.op_codec.specs.declared.position.Position.{Position}
use Rattle.op_codec.specs.Spelling.{Frame, most_insertions, frames_of, tip_of, tip, joins, frame_ops, spelling_in}
use Rattle.op_codec.specs.Frames.{BeginsWith}
use Rattle.op_codec.specs.Fault.{header_cause, cause_at, IsFault}

-- ---- what bytes show so far

-- these are whole frames after a whole header, and no whole frame follows them
pub record AreFrames (bytes : List ℕ) (ops : List OpView) : Type 0 where
  pub version : Version
  pub rest : List ℕ
  pub cause : Cause
  pub spelled : bytes ≡ spelling_in version ops ++ rest
  pub well_formed : AllByRecursion IsWellFormed ops
  pub no_frame : cause_at version (tip_of (most_insertions version) ops) rest ≡ Some cause

-- the operations of the whole frames so far: none where the header isn't whole and right
abbrev pub IsWhole : List ℕ → List OpView → Type 0
IsWhole bytes ops = ((ops ≡ []) × ((cause : Cause) × (header_cause bytes ≡ Some cause))) ⊎ AreFrames bytes ops

-- the bytes show no fault, except that a byte may be missing
abbrev pub IsSound : List ℕ → Type 0
IsSound bytes = (n : ℕ) (cause : Cause) → IsFault bytes n cause → cause ≡ Truncated

-- the bytes show this fault, whatever may follow them
abbrev pub IsLasting : List ℕ → ℕ → Cause → Type 0
IsLasting bytes n cause = IsFault bytes n cause × (cause ≢ Truncated)

-- ---- a feed

-- what is kept of these bytes: all, or a beginning that shows a fault
pub record IsFed (bytes kept : List ℕ) : Type 0 where
  pub more : List ℕ
  pub begins : bytes ≡ kept ++ more
  pub up_to : (more ≡ []) ⊎ ((n : ℕ) × (cause : Cause) × IsLasting kept n cause)

-- what a feed keeps before and after a piece, and its answer: all that was fed, which shows no fault; the first fault, which
-- it had shown before, and nothing has changed, or which the piece shows; or lack of memory, and nothing has changed
abbrev pub IsFeedOutcome : (old piece new : List ℕ) → Result (Unit {0}) CodecFault → Type 0
IsFeedOutcome old piece new (Ok done) = (new ≡ old ++ piece) × IsSound new
IsFeedOutcome old piece new (Err (Malformed frame cause)) = ((new ≡ old) ⊎ (IsSound old × IsFed (old ++ piece) new)) × IsLasting new frame cause
IsFeedOutcome old piece new (Err Memory) = (new ≡ old) × IsSound old × (header_cause (old ++ piece) ≡ None)

-- ---- how a feed keeps them

-- the position is that after the frames of these operations
pub record IsBehind (at : Position) (ops : List OpView) : Type 0 where
  pub frames : at.frames ≡ length (frames_of (most_insertions at.version) ops)
  pub tip : at.tip ≡ tip_of (most_insertions at.version) ops

-- before the header is whole its beginning, and then the frames of the operations and what follows them
abbrev pub bytes_of : Option Position → List OpView → List ℕ → List ℕ
bytes_of None ops kept = kept
bytes_of (Some at) ops kept = spelling_in at.version ops ++ kept

-- what the kept bytes show: they stand where the header is wanted, or where a frame is
abbrev pub kept_cause : Option Position → List ℕ → Option Cause
kept_cause None kept = header_cause kept
kept_cause (Some at) kept = cause_at at.version at.tip kept

-- they are no whole header, or no whole frame
abbrev pub ShowsCause : Option Position → List ℕ → Type 0
ShowsCause position kept = (cause : Cause) × (kept_cause position kept ≡ Some cause)

-- the same, after these operations
abbrev pub IsCut : Option Position → List OpView → List ℕ → Type 0
IsCut None ops kept = (ops ≡ []) × ((cause : Cause) × (header_cause kept ≡ Some cause))
IsCut (Some at) ops kept = AllByRecursion IsWellFormed ops × IsBehind at ops × ((cause : Cause) × (cause_at at.version at.tip kept ≡ Some cause))

-- where a reader stands between two pieces: after the whole frames, once the header is whole and right, and which bytes it keeps
pub record Standing : Type 0 where
  pub position : Option Position
  pub kept : List ℕ

-- it stands after these bytes, and these are the operations of their whole frames; a frame has at least one byte
pub record StandsAfter (s : Standing) (bytes : List ℕ) (ops : List OpView) : Type 0 where
  pub read : bytes ≡ bytes_of s.position ops s.kept
  pub cut : IsCut s.position ops s.kept
  pub few : IfSome s.position (λ at. at.frames ≤ length bytes)

-- what was written after the old operations
abbrev pub added : (old new : List OpView) → List OpView
added old new = drop (length old) new

-- a piece was read after these bytes, with this answer, and it stands after what a feed keeps of them all, with more operations
pub record GoesOn (bytes piece : List ℕ) (before more : List OpView) (new : Standing) (result : Result (Unit {0}) CodecFault) : Type 0 where
  pub fed : List ℕ
  pub outcome : IsFeedOutcome bytes piece fed result
  pub stands : StandsAfter new fed (before ++ more)

-- the fault of the kept bytes, with its frame: none where a frame may begin and no byte is kept
abbrev pub kept_fault : Option Position → List ℕ → Option (ℕ × Cause)
kept_fault None kept = option_map (λ cause. (0, cause)) (header_cause kept)
kept_fault (Some at) [] = None
kept_fault (Some at) (b ∷ kept) = option_map (λ cause. (at.frames + 1, cause)) (cause_at at.version at.tip (b ∷ kept))

-- there is no fault, or a byte is missing
abbrev pub IsMissing : Option (ℕ × Cause) → Type 0
IsMissing None = Unit {0}
IsMissing (Some fault) = fault.1 ≡ Truncated

-- the answer is a fault that more bytes can't mend
abbrev pub TellsKept : Option (ℕ × Cause) → CodecFault → Type 0
TellsKept kept (Malformed frame cause) = (kept ≡ Some (frame, cause)) × (cause ≢ Truncated)
TellsKept kept Memory = ⊥

-- a beginning of these bytes is kept, up to a cause: all of them, if that is a missing byte
pub record IsStopped (bytes kept : List ℕ) (shown : Option Cause) : Type 0 where
  pub cause : Cause
  pub more : List ℕ
  pub is_shown : shown ≡ Some cause
  pub begins : bytes ≡ kept ++ more
  pub all : cause ≡ Truncated → more ≡ []

-- the frame at the front, which joins nothing, and what follows it
pub record TakesFrame (at : Position) (bytes : List ℕ) (f : Frame) (rest : List ℕ) : Type 0 where
  pub begins : BeginsWith (most_insertions at.version) bytes f rest
  pub alone : joins at.tip f.first ≡ false

-- the position after one more frame
pub record IsNext (at next : Position) (f : Frame) : Type 0 where
  pub version : next.version ≡ at.version
  pub frames : next.frames ≡ at.frames + 1
  pub tip : next.tip ≡ tip (most_insertions at.version) f

-- one more frame was taken in, and what follows it
pub record TakesIn (at now : Position) (old new : List OpView) (bytes rest : List ℕ) : Type 0 where
  pub f : Frame
  pub takes : TakesFrame at bytes f rest
  pub next : IsNext at now f
  pub ops : new ≡ old ++ frame_ops f

-- whole frames were read after these operations, which makes this many in all, and the rest follows them
pub record MovesOn (at now : Position) (ops grown : List OpView) (bytes rest : List ℕ) : Type 0 where
  pub version : now.version ≡ at.version
  pub read : spelling_in at.version ops ++ bytes ≡ spelling_in at.version grown ++ rest
  pub well_formed : AllByRecursion IsWellFormed grown
  pub behind : IsBehind now grown

-- the bytes are read, up to a cause
pub record AreTaken (bytes : List ℕ) (at : Option Position) (ops : List OpView) (kept : List ℕ) : Type 0 where
  pub cut : IsCut at ops kept
  pub stopped : IsStopped bytes (bytes_of at ops kept) (kept_cause at kept)
