-- Frames that are written one after the other.
use Rattle.std.proofs.Common.{◌≡◌, ℕ, ◌+◌, ◌*◌, ◌<◌, ◌≤◌, List, [], ◌∷◌, ◌++◌, length, get_or, take, drop, slice_set, sym, ap, ◌∙◌, append_assoc, arith}
use Rattle.std.specs.List.{flat_map}
use Rattle.std.proofs.lemmas.List.{take_more, take-append-drop, length-append}
use Rattle.std.proofs.lemmas.List.Concat.{flat_map-cons, flat_map-append}
use Rattle.byteorder.specs.Endian.{big_bytes}
use Rattle.bg_types.specs.Identifier.{Identifier}
use Rattle.bg_types.specs.declared.op.Place.{Place}
use Rattle.bg_types.specs.declared.op.OpView.{OpView}
use Rattle.bg_types.specs.declared.op.OpView.TheVariants.{Insert, Erase}
use Rattle.op_codec.specs.Spelling.{Frame, frame, frame_fields, frame_bytes, bytes_with, frames_of}
use Rattle.op_codec.specs.Gathering.{inserted_characters}
use Rattle.op_codec.proofs.Characters.{length-bytes}
use Rattle.op_codec.proofs.Gathers.{frame_of, inserted-append}

-- ---- how long a frame is

pub length-frame_bytes : (first : OpView) (chars : List ℕ) → length (frame_bytes (record { first = first; further = chars })) ≡ length (frame first) + 4 * length chars
length-frame_bytes first [] = omega arith
length-frame_bytes (Insert id p c) (d ∷ chars) = omega (arith, length-bytes (d ∷ chars))
length-frame_bytes (Erase t) (d ∷ chars) = omega (arith, length-bytes (d ∷ chars))

-- the bytes of the frames of operations
abbrev pub gathered_bytes : List OpView → List ℕ
gathered_bytes ops = flat_map frame_bytes (frames_of 1024 ops)

pub first_bytes : (ops : List OpView) (f : Frame) (rest : List OpView) → frames_of 1024 ops ≡ f ∷ frames_of 1024 rest → gathered_bytes ops ≡ frame_bytes f ++ gathered_bytes rest
first_bytes ops f rest e = ap (λ (fs : List Frame). flat_map frame_bytes fs) e ∙ flat_map-cons frame_bytes f (frames_of 1024 rest)

pub length-first_bytes : (ops : List OpView) (first : OpView) (further rest : List OpView) → frames_of 1024 ops ≡ frame_of first further ∷ frames_of 1024 rest → length (inserted_characters further) ≡ length further
    → length (gathered_bytes ops) ≡ length (frame first) + 4 * length further + length (gathered_bytes rest)
length-first_bytes ops first further rest e all =
    let f = frame_of first further in
    let split = ap (λ (s : List ℕ). length s) (first_bytes ops f rest e) in
    omega (arith, split, length-append (frame_bytes f) (gathered_bytes rest), length-frame_bytes first (inserted_characters further), all)

-- ---- the characters of a run

pub characters_next : (ops : List OpView) (i : ℕ) (op : OpView) → i < length ops → op ≡ get_or ops i op
    → flat_map (big_bytes 4) (inserted_characters (take (i + 1) ops)) ≡ flat_map (big_bytes 4) (inserted_characters (take i ops)) ++ flat_map (big_bytes 4) (inserted_characters (op ∷ []))
characters_next ops i op inside is =
    let more : take (i + 1) ops ≡ take i ops ++ op ∷ [] = take_more ops i op inside ∙ ap (λ (x : OpView). take i ops ++ x ∷ []) (sym is) in
    ap (λ (s : List OpView). flat_map (big_bytes 4) (inserted_characters s)) more ∙ ap (λ (s : List ℕ). flat_map (big_bytes 4) s) (inserted-append (take i ops) (op ∷ []))
    ∙ flat_map-append (big_bytes 4) (inserted_characters (take i ops)) (inserted_characters (op ∷ []))

-- the next character too has its place among all
pub characters_left : (ops : List OpView) (i : ℕ) (op : OpView) → i < length ops → op ≡ get_or ops i op → length (inserted_characters (take i ops)) + length (inserted_characters (op ∷ [])) ≤ length (inserted_characters ops)
characters_left ops i op inside is =
    let more : take (i + 1) ops ≡ take i ops ++ op ∷ [] = take_more ops i op inside ∙ ap (λ (x : OpView). take i ops ++ x ∷ []) (sym is) in
    let all = ap (λ (s : List OpView). length (inserted_characters s)) (sym (take-append-drop (i + 1) ops)) in
    let parts = ap (λ (s : List ℕ). length s) (inserted-append (take (i + 1) ops) (drop (i + 1) ops)) in
    let front = ap (λ (s : List OpView). length (inserted_characters s)) more in
    let both = ap (λ (s : List ℕ). length s) (inserted-append (take i ops) (op ∷ [])) in
    omega (arith, all, parts, front, both, length-append (inserted_characters (take (i + 1) ops)) (inserted_characters (drop (i + 1) ops)), length-append (inserted_characters (take i ops)) (inserted_characters (op ∷ [])))

pub characters_pushed : (first out now : List ℕ) (ops : List OpView) (i : ℕ) (op : OpView) → i < length ops → op ≡ get_or ops i op → out ≡ first ++ flat_map (big_bytes 4) (inserted_characters (take i ops))
    → now ≡ out ++ flat_map (big_bytes 4) (inserted_characters (op ∷ [])) → now ≡ first ++ flat_map (big_bytes 4) (inserted_characters (take (i + 1) ops))
characters_pushed first out now ops i op inside is before grew =
    let done = flat_map (big_bytes 4) (inserted_characters (take i ops)) in
    let one = flat_map (big_bytes 4) (inserted_characters (op ∷ [])) in
    grew ∙ ap (λ (s : List ℕ). s ++ one) before ∙ append_assoc first done one ∙ ap (λ (s : List ℕ). first ++ s) (sym (characters_next ops i op inside is))

-- ---- the frame of a run

-- an insertion's frame with another length and a run's kind
pub front_written : (front : List ℕ) (size : ℕ) (id : Identifier) (p : Place) (ch : ℕ) (op : OpView) → front ≡ big_bytes 2 size ++ drop 2 (frame (Insert id p ch)) → Insert id p ch ≡ op
    → slice_set front 2 3 ≡ big_bytes 2 size ++ 3 ∷ frame_fields op
front_written front size id p ch op front_is op_is = ap (λ (s : List ℕ). slice_set s 2 3) front_is ∙ ap (λ (o : OpView). big_bytes 2 size ++ 3 ∷ frame_fields o) op_is

run_bytes : (first : OpView) (chars : List ℕ) (n : ℕ) → length chars ≡ n → 0 < n → (big_bytes 2 (17 + 4 * n) ++ 3 ∷ frame_fields first) ++ flat_map (big_bytes 4) chars ≡ bytes_with first chars
run_bytes first [] n e some = absurd (omega (arith, e, some))
run_bytes first (d ∷ chars) n e some = λ i. big_bytes 2 (17 + 4 * sym e i) ++ 3 ∷ (frame_fields first ++ flat_map (big_bytes 4) (d ∷ chars))

pub run_written : (out front middle now : List ℕ) (first : OpView) (further : List OpView) → front ≡ big_bytes 2 (17 + 4 * length further) ++ 3 ∷ frame_fields first → middle ≡ out ++ front
    → now ≡ middle ++ flat_map (big_bytes 4) (inserted_characters further) → length (inserted_characters further) ≡ length further → 0 < length further → now ≡ out ++ frame_bytes (frame_of first further)
run_written out front middle now first further front_is middle_is now_is all some =
    let chars = flat_map (big_bytes 4) (inserted_characters further) in
    now_is ∙ ap (λ (s : List ℕ). s ++ chars) middle_is ∙ append_assoc out front chars
    ∙ ap (λ (s : List ℕ). out ++ s) (ap (λ (s : List ℕ). s ++ chars) front_is ∙ run_bytes first (inserted_characters further) (length further) all some)
