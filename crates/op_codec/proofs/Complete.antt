-- Bytes that show no fault are spelled.
use Rattle.std.proofs.Common.{◌≡◌, ℕ, suc, zero, ◌+◌, ◌<◌, ◌≤◌, false, List, [], ◌∷◌, ◌++◌, length, drop, Option, None, refl, sym, ap, ◌∙◌, append_assoc, arith, inl, inr, ◌⊎◌}
use Rattle.std.specs.Prelude.{All}
use Rattle.std.specs.List.{flat_map, AllByRecursion}
use Rattle.std.proofs.lemmas.Bool.{cases_lt}
use Rattle.std.proofs.lemmas.List.{append-nil, get_or_past, length-append}
use Rattle.std.proofs.lemmas.List.Concat.{flat_map-append, flat_map-cons}
use Rattle.byteorder.specs.Endian.{big_bytes}
use Rattle.bg_types.specs.Identifier.{Identifier}
use Rattle.bg_types.specs.WellFormed.{IsWellFormed}
use Rattle.bg_types.specs.declared.op.OpView.{OpView}
use Rattle.bg_types.specs.declared.op.OpView.TheVariants.{Insert, Erase}
use Rattle.op_codec.specs.declared.fault.Cause.{Cause}
use Rattle.op_codec.specs.declared.fault.Cause.TheVariants.{NotJoined}
use Rattle.op_codec.specs.declared.position.Version.{Version}
use Rattle.op_codec.specs.Spelling.{Frame, header, frame_fields, bytes_with, frame_bytes, frame_ops, joins, most_insertions, frames_of, tip_of, spelling_in, Spells}
use Rattle.op_codec.specs.Frames.{IsFrame}
use Rattle.op_codec.specs.Fault.{header_cause, frame_cause, joined_cause, cause_at, IsFault}
use Rattle.op_codec.proofs.Bytes.{IsBytes, IsBytes-drop}
use Rattle.op_codec.proofs.Faultless.{joined_cause-frame}
use Rattle.op_codec.proofs.Gathered.{frames_more, more_well}
use Rattle.op_codec.proofs.Shown.{no_cause, neither, cause_or_none, frame_there, header_there}

-- the bytes spell a list, or show a first fault
abbrev pub Told : List ℕ → Type 0
Told bytes = ((ops : List OpView) × Spells bytes ops) ⊎ ((n : ℕ) × (cause : Cause) × IsFault bytes n cause)

-- one more frame that joins nothing
pub more_spelled : (version : Version) (ops : List OpView) (f : Frame) (rest : List ℕ) → IsFrame (most_insertions version) f → joins (tip_of (most_insertions version) ops) f.first ≡ false
    → spelling_in version ops ++ (frame_bytes f ++ rest) ≡ spelling_in version (ops ++ frame_ops f) ++ rest
more_spelled version ops f rest is free =
    let most = most_insertions version in
    let frames = frames_of most ops in
    let last : flat_map frame_bytes (frames ++ f ∷ []) ≡ flat_map frame_bytes frames ++ frame_bytes f =
    flat_map-append frame_bytes frames (f ∷ []) ∙ ap (λ (s : List ℕ). flat_map frame_bytes frames ++ s) (flat_map-cons frame_bytes f [] ∙ append-nil (frame_bytes f)) in
    ap (λ (s : List ℕ). header version ++ s) (sym (append_assoc (flat_map frame_bytes frames) (frame_bytes f) rest) ∙ ap (λ (s : List ℕ). s ++ rest) (sym last))
    ∙ ap (λ (fs : List Frame). (header version ++ flat_map frame_bytes fs) ++ rest) (sym (frames_more most ops f is free))

pub bytes_positive : (first : OpView) (further rest : List ℕ) → length rest < length (bytes_with first further ++ rest)
bytes_positive (Insert id parent ch) [] rest = omega arith
bytes_positive (Erase target) [] rest = omega arith
bytes_positive first (c ∷ cs) rest = omega (arith, length-append (frame_fields first ++ flat_map (big_bytes 4) (c ∷ cs)) rest)

-- what shows no cause after a tip begins with a frame that joins nothing
pub alone_there : (version : Version) (before : Option Identifier) (bytes : List ℕ) (f : Frame) (rest : List ℕ) → IsFrame (most_insertions version) f → bytes ≡ frame_bytes f ++ rest → joined_cause before bytes ≡ None → joins before f.first ≡ false
alone_there version before bytes f rest is begins none =
    (no_cause (joins before f.first) NotJoined None (sym (joined_cause-frame before f.first f.further rest is.first is.goes_on) ∙ ap (joined_cause before) (sym begins) ∙ none)).0

-- after whole frames, the same is true of what is left
rest_told : (most : ℕ) (bytes : List ℕ) (version : Version) (ops : List OpView) (rest : List ℕ) → length rest ≤ most → IsBytes rest → bytes ≡ spelling_in version ops ++ rest → AllByRecursion IsWellFormed ops → Told bytes
rest_told most bytes version ops [] small fits begins all = inl (ops, record { version = version; spelled = record { bytes = begins ∙ append-nil (spelling_in version ops); well_formed = all } })
rest_told zero bytes version ops (b ∷ rest) small fits begins all = absurd (omega (arith, small))
rest_told (suc most) bytes version ops (b ∷ rest) small fits begins all =
    let left = b ∷ rest in
    let before = tip_of (most_insertions version) ops in
    elim (cause_or_none (cause_at version before left)) [
      | inl shown ↦ inr (
        length (frames_of (most_insertions version) ops) + 1,
        shown.0,
        inr (record { version = version; ops = ops; rest = left; number = refl; before = begins; well_formed = all; goes_on = omega arith; shown = shown.1 }),
      )
      | inr none ↦
          let both = neither (frame_cause version left) (joined_cause before left) none in
          let there = frame_there version left fits both.0 in
          let f = there.0 in
          let free = alone_there version before left f there.1 there.2 there.3 both.1 in
          let fewer : length there.1 ≤ most = omega (arith, small, bytes_positive f.first f.further there.1, ap (λ (s : List ℕ). length s) there.3) in
          let now : bytes ≡ spelling_in version (ops ++ frame_ops f) ++ there.1 = begins ∙ ap (λ (s : List ℕ). spelling_in version ops ++ s) there.3 ∙ more_spelled version ops f there.1 there.2 free in
          rest_told most bytes version (ops ++ frame_ops f) there.1 fewer there.4 now (more_well (most_insertions version) ops f all there.2)
    ]

pub told : (bytes : List ℕ) → All (λ byte. byte < 256) bytes → Told bytes
told bytes all =
    let fits : IsBytes bytes = λ i. elim (cases_lt i (length bytes)) [
      | inl lt ↦ all i 0 lt
      | inr le ↦ rw (get_or_past bytes i 0 le) (omega arith)
    ] in
    elim (cause_or_none (header_cause bytes)) [
      | inl shown ↦ inr (0, shown.0, inl (refl, shown.1))
      | inr none ↦ let there = header_there bytes none in rest_told (length (drop 5 bytes)) bytes there.0 [] (drop 5 bytes) (omega arith) (IsBytes-drop 5 bytes fits) there.1 tt
    ]
