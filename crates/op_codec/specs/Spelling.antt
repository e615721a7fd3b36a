-- How operation files spell operations: the definition Files, spelled.
use Rattle.std.specs.Prelude.{◌≡◌, ◌+◌, ◌*◌, ◌==◌, ◌&&◌, cond, nat_lt, Bool, false, List, [], ◌∷◌, ◌++◌, ℕ, length, Option, Some, None}
use Rattle.std.specs.List.{flat_map, AllByRecursion}
use Rattle.byteorder.specs.Endian.{big_bytes}
use Rattle.bg_types.specs.Identifier.{Identifier}
use Rattle.bg_types.specs.WellFormed.{IsWellFormed}
use Rattle.bg_types.specs.declared.op.Place.{Place}
use Rattle.bg_types.specs.declared.op.Place.TheVariants.{Root, After}
use Rattle.bg_types.specs.declared.op.OpView.{OpView}
use Rattle.bg_types.specs.declared.op.OpView.TheVariants.{Insert, Erase}
use Rattle.op_codec.specs.declared.position.Version.{Version}
use Rattle.op_codec.specs.declared.position.Version.TheVariants.{One, Two}

-- ---- bytes

-- `BGOP`
abbrev pub magic : List ℕ
magic = 66 ∷ 71 ∷ 79 ∷ 80 ∷ []

abbrev pub version_number : Version → ℕ
version_number One = 1
version_number Two = 2

-- the magic and the version
abbrev pub header : Version → List ℕ
header version = magic ++ version_number version ∷ []

-- a counter in four bytes and a site in two, the highest byte first
abbrev pub identifier_bytes : Identifier → List ℕ
identifier_bytes id = big_bytes 4 id.counter ++ big_bytes 2 id.site

-- the root is spelled as two zeros
abbrev pub parent_identifier : Place → Identifier
parent_identifier Root = record { counter = 0; site = 0 }
parent_identifier (After id) = id

-- which operation a frame spells
abbrev pub frame_kind : OpView → ℕ
frame_kind (Insert id parent ch) = 1
frame_kind (Erase target) = 2

-- how many bytes follow a frame's length
abbrev pub frame_length : OpView → ℕ
frame_length (Insert id parent ch) = 17
frame_length (Erase target) = 7

-- what follows a frame's kind
abbrev pub frame_fields : OpView → List ℕ
frame_fields (Insert id parent ch) = identifier_bytes id ++ (identifier_bytes (parent_identifier parent) ++ big_bytes 4 ch)
frame_fields (Erase target) = identifier_bytes target

-- the frame of one operation: a length in two bytes, a kind in one, and the fields
abbrev pub frame : OpView → List ℕ
frame op = big_bytes 2 (frame_length op) ++ frame_kind op ∷ frame_fields op

-- the header of version 1, then a frame for each operation
abbrev pub spelling : List OpView → List ℕ
spelling ops = header One ++ flat_map frame ops

-- ---- frames

-- one operation, and the characters of the insertions that a run has after it
pub record Frame : Type 0 where
  pub first : OpView
  pub further : List ℕ

-- a run is of kind 3, and has the fields of its first insertion and the further characters, four bytes each
abbrev pub bytes_with : OpView → List ℕ → List ℕ
bytes_with first [] = frame first
bytes_with first (ch ∷ chars) = big_bytes 2 (17 + 4 * length (ch ∷ chars)) ++ 3 ∷ (frame_fields first ++ flat_map (big_bytes 4) (ch ∷ chars))

abbrev pub frame_bytes : Frame → List ℕ
frame_bytes f = bytes_with f.first f.further

-- the identifier of the next insertion of a run: of the same site, with the next counter
abbrev pub next_of : Identifier → Identifier
next_of id = record { counter = id.counter + 1; site = id.site }

-- insertions of these characters, each after the one before
abbrev pub followers : Identifier → List ℕ → List OpView
followers before [] = []
followers before (ch ∷ chars) = Insert (next_of before) (After before) ch ∷ followers (next_of before) chars

abbrev pub further_ops : OpView → List ℕ → List OpView
further_ops (Insert id parent ch) chars = followers id chars
further_ops (Erase target) chars = []

-- the operations that a frame stands for
abbrev pub frame_ops : Frame → List OpView
frame_ops f = f.first ∷ further_ops f.first f.further

-- the identifier of the last of them, if it is an insertion
abbrev pub last_id : OpView → List ℕ → Option Identifier
last_id (Insert id parent ch) chars = Some (record { counter = id.counter + length chars; site = id.site })
last_id (Erase target) chars = None

-- ---- gathering

abbrev pub most_insertions : Version → ℕ
most_insertions One = 1
most_insertions Two = 1024

-- the numbers are those of the next insertion of a run: the parent is the one before, of the same site, with a counter one less
abbrev pub follows : (before id parent : Identifier) → Bool
follows before id parent = (parent.counter == before.counter) && (parent.site == before.site) && (id.site == before.site) && (id.counter == before.counter + 1)

-- an operation joins what was inserted before it
abbrev pub joins : Option Identifier → OpView → Bool
joins (Some before) (Insert id parent ch) = follows before id (parent_identifier parent)
joins (Some before) (Erase target) = false
joins None op = false

-- what the next operation may join: the last one of the frame before, unless that is a full run
abbrev pub tip : ℕ → Frame → Option Identifier
tip most f = cond (nat_lt (length f.further + 1) most) (last_id f.first f.further) None

-- the frame with one more insertion
abbrev pub grown : Frame → OpView → Frame
grown f (Insert id parent ch) = record { first = f.first; further = f.further ++ ch ∷ [] }
grown f (Erase target) = f

-- from the front each operation goes on with the frame before, or begins the next one
abbrev pub gathered : ℕ → Frame → List OpView → List Frame
gathered most f [] = f ∷ []
gathered most f (op ∷ ops) = cond (joins (tip most f) op) (gathered most (grown f op) ops) (f ∷ gathered most (record { first = op; further = [] }) ops)

-- the longest chains of joined insertions, cut after a number of them
abbrev pub frames_of : ℕ → List OpView → List Frame
frames_of most [] = []
frames_of most (op ∷ ops) = gathered most (record { first = op; further = [] }) ops

-- the tip after frames
abbrev pub last_tip : ℕ → Option Identifier → List Frame → Option Identifier
last_tip most before [] = before
last_tip most before (f ∷ frames) = last_tip most (tip most f) frames

abbrev pub tip_of : ℕ → List OpView → Option Identifier
tip_of most ops = last_tip most None (frames_of most ops)

-- ---- files

-- the header, then the frames one after the other
abbrev pub spelling_in : Version → List OpView → List ℕ
spelling_in version ops = header version ++ flat_map frame_bytes (frames_of (most_insertions version) ops)

-- the file of this version spells these operations, each well formed
pub record SpellsIn (version : Version) (file : List ℕ) (ops : List OpView) : Type 0 where
  pub bytes : file ≡ spelling_in version ops
  pub well_formed : AllByRecursion IsWellFormed ops

-- the file spells these operations, in one of the versions
pub record Spells (file : List ℕ) (ops : List OpView) : Type 0 where
  pub version : Version
  pub spelled : SpellsIn version file ops
