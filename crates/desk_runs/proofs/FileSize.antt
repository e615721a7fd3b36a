-- A file has at most 19 bytes for each of its operations, plus 5.
use Rattle.std.proofs.Common.{◌≡◌, ◌≤◌, ◌+◌, ◌*◌, ℕ, true, false, cond, List, [], ◌∷◌, ◌++◌, length, refl, length-append, arith}
use Rattle.std.specs.List.{flat_map}
use Rattle.byteorder.specs.Endian.{big_bytes}
use Rattle.bg_types.specs.declared.op.OpView.{OpView}
use Rattle.bg_types.specs.declared.op.OpView.TheVariants.{Insert, Erase}
use Rattle.op_codec.specs.declared.position.Version.{Version}
use Rattle.op_codec.specs.declared.position.Version.TheVariants.{One, Two}
use Rattle.op_codec.specs.Spelling.{Frame, frame_fields, bytes_with, frame_bytes, joins, tip, grown, gathered, frames_of, most_insertions, spelling_in}

characters_size : (chars : List ℕ) → length (flat_map (big_bytes 4) chars) ≡ 4 * length chars
characters_size [] = refl
characters_size (ch ∷ chars) = let rest = characters_size chars in let more = length-append (big_bytes 4 ch) (flat_map (big_bytes 4) chars) in omega (arith, rest, more)

fields_size : (op : OpView) → length (frame_fields op) ≤ 16
fields_size (Insert id parent ch) = omega arith
fields_size (Erase target) = omega arith

frame_size : (first : OpView) (further : List ℕ) → length (bytes_with first further) ≡ 3 + length (frame_fields first) + 4 * length further
frame_size (Insert id parent ch) [] = omega arith
frame_size (Erase target) [] = omega arith
frame_size first (c ∷ chars) =
    let more = length-append (frame_fields first) (flat_map (big_bytes 4) (c ∷ chars)) in
    let four = characters_size (c ∷ chars) in
    omega (arith, more, four)

grown_size : (f : Frame) (op : OpView) → length (frame_bytes (grown f op)) ≤ length (frame_bytes f) + 19
grown_size f (Erase target) = omega arith
grown_size f (Insert id parent ch) =
    let old = frame_size f.first f.further in
    let new = frame_size f.first (f.further ++ ch ∷ []) in
    let one = length-append f.further (ch ∷ []) in
    omega (arith, old, new, one)

gathered_size : (most : ℕ) (f : Frame) (ops : List OpView) → length (flat_map frame_bytes (gathered most f ops)) ≤ length (frame_bytes f) + 19 * length ops
gathered_size most f [] = let none = length-append (frame_bytes f) [] in omega (arith, none)
gathered_size most f (op ∷ ops) =
    elim (joins (tip most f) op) as (λ b. length (flat_map frame_bytes (cond b (gathered most (grown f op) ops) (f ∷ gathered most (record { first = op; further = [] }) ops))) ≤ length (frame_bytes f) + 19 * length (op ∷ ops)) [
      | true ↦ let rest = gathered_size most (grown f op) ops in let one = grown_size f op in omega (arith, rest, one)
      | false ↦
          let rest = gathered_size most (record { first = op; further = [] }) ops in
          let own = frame_size op [] in
          let few = fields_size op in
          let more = length-append (frame_bytes f) (flat_map frame_bytes (gathered most (record { first = op; further = [] }) ops)) in
          omega (arith, rest, own, few, more)
    ]

frames_size : (most : ℕ) (ops : List OpView) → length (flat_map frame_bytes (frames_of most ops)) ≤ 19 * length ops
frames_size most [] = omega arith
frames_size most (op ∷ ops) =
    let rest = gathered_size most (record { first = op; further = [] }) ops in
    let own = frame_size op [] in
    let few = fields_size op in
    omega (arith, rest, own, few)

pub file_size : (version : Version) (ops : List OpView) → length (spelling_in version ops) ≤ 5 + 19 * length ops
file_size One ops = let most = frames_size (most_insertions One) ops in omega (arith, most)
file_size Two ops = let most = frames_size (most_insertions Two) ops in omega (arith, most)
