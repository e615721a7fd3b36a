-- Which frames exist, and which lists of them.
use Rattle.std.specs.Prelude.{◌≡◌, ◌<◌, ◌≤◌, ◌+◌, ◌^◌, false, List, [], ◌∷◌, ◌++◌, ℕ, length, Option}
use Rattle.std.specs.List.{AllByRecursion}
use Rattle.std.specs.Char.{IsScalar}
use Rattle.bg_types.specs.Identifier.{Identifier}
use Rattle.bg_types.specs.WellFormed.{IsWellFormed}
use Rattle.bg_types.specs.declared.op.OpView.{OpView}
use Rattle.bg_types.specs.declared.op.OpView.TheVariants.{Insert, Erase}
use Rattle.op_codec.specs.Spelling.{Frame, frame_bytes, joins, tip}

-- an insertion may go on with this many characters: the last counter fits
abbrev pub MayGoOn : OpView → List ℕ → Type 0
MayGoOn op [] = Unit {0}
MayGoOn (Insert id parent c) (ch ∷ chars) = id.counter + length (ch ∷ chars) < 2 ^ 32
MayGoOn (Erase target) (ch ∷ chars) = ⊥

-- a frame of at most this many operations, each well formed
pub record IsFrame (most : ℕ) (f : Frame) : Type 0 where
  pub first : IsWellFormed f.first
  pub goes_on : MayGoOn f.first f.further
  pub scalars : AllByRecursion IsScalar f.further
  pub few : length f.further + 1 ≤ most

-- frames, none of which could go on with the one before
abbrev pub AreFrames : ℕ → Option Identifier → List Frame → Type 0
AreFrames most before [] = Unit {0}
AreFrames most before (f ∷ frames) = IsFrame most f × (joins before f.first ≡ false) × AreFrames most (tip most f) frames

-- the frame at the front, and what follows it
pub record BeginsWith (most : ℕ) (bytes : List ℕ) (f : Frame) (rest : List ℕ) : Type 0 where
  pub spelled : bytes ≡ frame_bytes f ++ rest
  pub is_frame : IsFrame most f
