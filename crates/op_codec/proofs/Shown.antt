-- Bytes that show no cause begin with the header, or with a frame.
use Rattle.std.proofs.Common.{◌≡◌, ℕ, ◌+◌, ◌-◌, ◌^◌, ◌<◌, ◌≤◌, true, false, eqb, ltb, Bool, List, [], ◌∷◌, ◌++◌, length, slice_index, take, drop, Option, Some, None, refl, sym, ap, ◌∙◌, arith, inl, inr, ◌⊎◌}
use Rattle.std.specs.Prelude.{◌||◌, ◌&&◌, not, nat_le, if◌then◌else◌}
use Rattle.std.specs.List.{starts_with, list_all}
use Rattle.std.proofs.Math.Utf8.{scalar}
use Rattle.std.proofs.lemmas.Bool.Decides.{nat_tests}
use Rattle.std.proofs.lemmas.Bool.{cases_Bool, and_parts, ltb-false, leb-false, eqb-true, eqb-false, or_parts, and_cases, not-false}
use Rattle.std.proofs.lemmas.List.{length-drop, length-take, drop-drop}
use Rattle.byteorder.specs.Endian.{big_number}
use Rattle.byteorder.specs.Numbers.{big_from-lt}
use Rattle.bg_types.specs.Identifier.{Identifier, IsIdentifier}
use Rattle.bg_types.specs.WellFormed.{IsWellFormed, MayFollow}
use Rattle.bg_types.specs.declared.op.Place.{Place}
use Rattle.bg_types.specs.declared.op.Place.TheVariants.{Root, After}
use Rattle.bg_types.specs.declared.op.OpView.{OpView}
use Rattle.bg_types.specs.declared.op.OpView.TheVariants.{Insert, Erase}
use Rattle.op_codec.specs.declared.fault.Cause.{Cause}
use Rattle.op_codec.specs.declared.fault.Cause.TheVariants.{UnknownKind}
use Rattle.op_codec.specs.declared.position.Version.{Version}
use Rattle.op_codec.specs.declared.position.Version.TheVariants.{One, Two}
use Rattle.op_codec.specs.declared.fault.Cause.TheVariants.{BadLength}
use Rattle.op_codec.specs.Spelling.{Frame, magic, header, parent_identifier, frame, frame_bytes, most_insertions}
use Rattle.op_codec.specs.Frames.{IsFrame}
use Rattle.op_codec.specs.Fault.{or_else, header_cause, identifier_at, has_zero, is_half_zero, erasure_cause, insertion_cause, length_cause, numbers_cause, run_cause, run_frame_cause, is_run_length, characters_in, frame_cause}
use Rattle.op_codec.proofs.Bytes.{IsBytes, IsBytes-drop, IsBytes-take}
use Rattle.op_codec.proofs.Frames.{erasure_fields, insertion_fields, erasure_spelled, insertion_spelled, run_parts, run_fields, run_spelled, further_count}
use Rattle.op_codec.proofs.Characters.{characters_more, scalars_there}
use Rattle.op_codec.proofs.Gathered.{alone, alone_is, may_go_on}

-- where a list of tests shows no cause, its first test fails, and neither do the later ones show any
pub no_cause : (test : Bool) (cause : Cause) (later : Option Cause) → (if test then Some cause else later) ≡ None → (test ≡ false) × (later ≡ None)
no_cause true cause later none = absurd cc
no_cause false cause later none = (refl, none)

pub neither : (first second : Option Cause) → or_else first second ≡ None → (first ≡ None) × (second ≡ None)
neither (Some cause) second none = absurd cc
neither None second none = (refl, none)

pub cause_or_none : (o : Option Cause) → ((cause : Cause) × (o ≡ Some cause)) ⊎ (o ≡ None)
cause_or_none (Some cause) = inl (cause, refl)
cause_or_none None = inr refl

pub length_right : (size : ℕ) (bytes : List ℕ) → length_cause size bytes ≡ None → (big_number 2 bytes ≡ size) × (2 + size ≤ length bytes)
length_right size bytes none =
    let first = no_cause (not (eqb (big_number 2 bytes) size)) _ _ none in
    let second = no_cause (ltb (length bytes) (2 + size)) _ _ first.1 in
    (eqb-true _ _ (not-false _ first.0), ltb-false _ _ second.0)

positive : (n : ℕ) → eqb n 0 ≡ false → 0 < n
positive n h = let other = eqb-false n 0 h in omega arith

identifier_there : (f : List ℕ) → IsBytes f → has_zero (identifier_at f) ≡ false → IsIdentifier (identifier_at f)
identifier_there f fits none =
    let id = identifier_at f in
    let both = or_parts (eqb id.counter 0) (eqb id.site 0) none in
    record {
      counter_positive = positive id.counter both.0;
      counter_fits = big_from-lt 0 4 f fits;
      site_positive = positive id.site both.1;
      site_fits = big_from-lt 0 2 (drop 4 f) (IsBytes-drop 4 f fits);
    }

-- the parent that two numbers mean
parent_there : (f : List ℕ) (id : Identifier) → IsBytes f → is_half_zero (identifier_at f) ≡ false → (identifier_at f).counter < id.counter
    → (place : Place) × (parent_identifier place ≡ identifier_at f) × MayFollow place id
parent_there f id fits whole before =
    let parent = identifier_at f in
    elim (and_cases (has_zero parent) (not (eqb parent.counter 0 && eqb parent.site 0)) whole) [
      | inl none ↦ (After parent, refl, (identifier_there f fits none, before))
      | inr both ↦
          let zeros = and_parts (eqb parent.counter 0) (eqb parent.site 0) (not-false _ both) in
          let counter = eqb-true parent.counter 0 zeros.0 in
          let site = eqb-true parent.site 0 zeros.1 in
          (Root, (λ i. record { counter = sym counter i; site = sym site i }), tt)
    ]

-- the operation that the fields of a frame mean
erasure_there : (bytes : List ℕ) → IsBytes bytes → 3 ≤ length bytes → slice_index bytes 2 ≡ 2
    → or_else (length_cause 7 bytes) (erasure_cause (take 6 (drop 3 bytes))) ≡ None → (op : OpView) × IsWellFormed op × (bytes ≡ frame op ++ drop 9 bytes)
erasure_there bytes fits long kind none =
    let f = take 6 (drop 3 bytes) in
    let both = neither (length_cause 7 bytes) (erasure_cause f) none in
    let size = length_right 7 bytes both.0 in
    let whole = no_cause (has_zero (identifier_at f)) _ _ both.1 in
    let f_fits = IsBytes-take 6 (drop 3 bytes) (IsBytes-drop 3 bytes fits) in
    let six : length f ≡ 6 = omega (arith, length-take 6 (drop 3 bytes), length-drop 3 bytes) in
    let target = identifier_at f in (
      Erase target,
      identifier_there f f_fits whole.0,
      erasure_spelled bytes f (drop 9 bytes) (Erase target) fits long kind size.0 refl refl refl (erasure_fields f target f_fits six refl),
    )

insertion_there : (bytes : List ℕ) → IsBytes bytes → 3 ≤ length bytes → slice_index bytes 2 ≡ 1
    → or_else (length_cause 17 bytes) (insertion_cause (take 16 (drop 3 bytes))) ≡ None → (op : OpView) × IsWellFormed op × (bytes ≡ frame op ++ drop 19 bytes)
insertion_there bytes fits long kind none =
    let f = take 16 (drop 3 bytes) in
    let both = neither (length_cause 17 bytes) (insertion_cause f) none in
    let size = length_right 17 bytes both.0 in
    let id = identifier_at f in
    let ch = big_number 4 (drop 12 f) in
    let zeros = no_cause (has_zero id || is_half_zero (identifier_at (drop 6 f))) _ _ both.1 in
    let early = no_cause (nat_le id.counter (identifier_at (drop 6 f)).counter) _ _ zeros.1 in
    let character = no_cause (not (scalar ch)) _ _ early.1 in
    let whole = or_parts (has_zero id) (is_half_zero (identifier_at (drop 6 f))) zeros.0 in
    let f_fits = IsBytes-take 16 (drop 3 bytes) (IsBytes-drop 3 bytes fits) in
    let sixteen : length f ≡ 16 = omega (arith, length-take 16 (drop 3 bytes), length-drop 3 bytes) in
    let place = parent_there (drop 6 f) id (IsBytes-drop 6 f f_fits) whole.1 (leb-false _ _ early.0) in
    let op = Insert id place.0 ch in (
      op,
      (identifier_there f f_fits whole.0, place.2, not-false _ character.0),
      insertion_spelled bytes f (drop 19 bytes) op fits long kind size.0 refl refl refl (insertion_fields f id place.0 ch f_fits sixteen refl place.1 refl),
    )

run_there : (bytes : List ℕ) → IsBytes bytes → 3 ≤ length bytes → slice_index bytes 2 ≡ 3 → run_frame_cause bytes ≡ None
    → (f : Frame) × (rest : List ℕ) × IsFrame 1024 f × (bytes ≡ frame_bytes f ++ rest) × IsBytes rest
run_there bytes fits long kind none = by_length (cases_Bool (is_run_length (big_number 2 bytes))) where
  by_length : (is_run_length (big_number 2 bytes) ≡ true) ⊎ (is_run_length (big_number 2 bytes) ≡ false) → (f : Frame) × (rest : List ℕ) × IsFrame 1024 f × (bytes ≡ frame_bytes f ++ rest) × IsBytes rest
  by_length (inr wrong) = let shown : Some BadLength ≡ None = rw wrong at none in absurd cc
  by_length (inl right) =
      let size = big_number 2 bytes in
      let f = take (size - 1) (drop 3 bytes) in
      let shown : or_else (length_cause size bytes) (run_cause f) ≡ None = rw right at none in
      let both = neither (length_cause size bytes) (run_cause f) shown in
      let sized = length_right size bytes both.0 in
      let parts = run_parts size right in
      let id = identifier_at f in
      let chars = characters_in (drop 12 f) in
      let two = neither (numbers_cause f) _ both.1 in
      let zeros = no_cause (has_zero id || is_half_zero (identifier_at (drop 6 f))) _ _ two.0 in
      let early = no_cause (nat_le id.counter (identifier_at (drop 6 f)).counter) _ _ zeros.1 in
      let room = no_cause (ltb (2 ^ 32) (id.counter + length chars)) _ _ two.1 in
      let character = no_cause (not (list_all scalar chars)) _ _ room.1 in
      let whole = or_parts (has_zero id) (is_half_zero (identifier_at (drop 6 f))) zeros.0 in
      let f_fits = IsBytes-take (size - 1) (drop 3 bytes) (IsBytes-drop 3 bytes fits) in
      let length_is : length f ≡ size - 1 = omega (arith, length-take (size - 1) (drop 3 bytes), length-drop 3 bytes, sized.1) in
      let place = parent_there (drop 6 f) id (IsBytes-drop 6 f f_fits) whole.1 (leb-false _ _ early.0) in
      let ch = big_number 4 (drop 12 f) in
      let further = characters_in (drop 16 f) in
      let more : chars ≡ ch ∷ further = characters_more (drop 12 f) (omega (arith, length-drop 12 f, length_is, parts.0, parts.1)) ∙ ap (λ (s : List ℕ). ch ∷ characters_in s) (drop-drop 4 12 f) in
      let all = scalars_there (ch ∷ further) (ap (list_all scalar) (sym more) ∙ not-false _ character.0) in
      let longer : length chars ≡ length further + 1 = ap (λ (s : List ℕ). length s) more ∙ omega arith in
      let fits_counter = ltb-false (2 ^ 32) (id.counter + length chars) room.0 in
      let first = Insert id place.0 ch in (
        record { first = first; further = further },
        drop (2 + size) bytes,
        record {
          first = (identifier_there f f_fits whole.0, place.2, all.0);
          goes_on = may_go_on id place.0 ch further (omega (arith, fits_counter, longer));
          scalars = all.1;
          few = omega (arith, further_count size f right length_is, parts.2);
        },
        run_spelled bytes f (drop (2 + size) bytes) first size fits long kind refl right sized.1 refl refl
            (run_fields f id place.0 ch f_fits (omega (arith, length_is, parts.0, parts.1)) refl place.1 refl),
        IsBytes-drop (2 + size) bytes fits,
      )

-- bytes that show no cause begin with a frame
pub frame_there : (version : Version) (bytes : List ℕ) → IsBytes bytes → frame_cause version bytes ≡ None
    → (f : Frame) × (rest : List ℕ) × IsFrame (most_insertions version) f × (bytes ≡ frame_bytes f ++ rest) × IsBytes rest
frame_there version bytes fits none =
    let kind = slice_index bytes 2 in
    let long = no_cause (ltb (length bytes) 3) _ _ none in
    let three = ltb-false (length bytes) 3 long.0 in
    elim (cases_Bool (eqb kind 1)) [
      | inl one ↦
          let shown : or_else (length_cause 17 bytes) (insertion_cause (take 16 (drop 3 bytes))) ≡ None = rw one at long.1 in
          let there = insertion_there bytes fits three (eqb-true kind 1 one) shown in
          (alone there.0, drop 19 bytes, alone_is (most_insertions version) there.0 (some_insertions version) there.1, there.2, IsBytes-drop 19 bytes fits)
      | inr other ↦
          elim (cases_Bool (eqb kind 2)) [
            | inl two ↦
                let shown : or_else (length_cause 7 bytes) (erasure_cause (take 6 (drop 3 bytes))) ≡ None = rw (other, two) at long.1 in
                let there = erasure_there bytes fits three (eqb-true kind 2 two) shown in
                (alone there.0, drop 9 bytes, alone_is (most_insertions version) there.0 (some_insertions version) there.1, there.2, IsBytes-drop 9 bytes fits)
            | inr neither_kind ↦
                elim (cases_Bool (eqb kind 3 && ltb 1 (most_insertions version))) [
                  | inl run ↦
                      let shown : run_frame_cause bytes ≡ None = rw (other, neither_kind, run) at long.1 in
                      let parts = and_parts (eqb kind 3) (ltb 1 (most_insertions version)) run in
                      let there = run_there bytes fits three (eqb-true kind 3 parts.0) shown in
                      (there.0, there.1, of_version version there.0 parts.1 there.2, there.3, there.4)
                  | inr no_kind ↦
                      let shown : Some UnknownKind ≡ None = rw (other, neither_kind, no_kind) at long.1 in
                      absurd cc
                ]
          ]
    ] where
      some_insertions : (v : Version) → 1 ≤ most_insertions v
      some_insertions One = omega arith
      some_insertions Two = omega arith

      of_version : (v : Version) (f : Frame) → ltb 1 (most_insertions v) ≡ true → IsFrame 1024 f → IsFrame (most_insertions v) f
      of_version One f runs is = absurd cc
      of_version Two f runs is = is

header_bytes : (bytes : List ℕ) (number : ℕ) → 5 ≤ length bytes → starts_with eqb magic (take 4 bytes) ≡ true → slice_index bytes 4 ≡ number → bytes ≡ (magic ++ number ∷ []) ++ drop 5 bytes
header_bytes (a ∷ b ∷ c ∷ d ∷ e ∷ rest) number long same version =
    let first : a ≡ 66 = grind (arith, nat_tests, same) in
    let second : b ≡ 71 = grind (arith, nat_tests, same) in
    let third : c ≡ 79 = grind (arith, nat_tests, same) in
    let fourth : d ≡ 80 = grind (arith, nat_tests, same) in
    λ i. first i ∷ second i ∷ third i ∷ fourth i ∷ version i ∷ rest
header_bytes [] number long same version = absurd (omega (arith, long))
header_bytes (a ∷ []) number long same version = absurd (omega (arith, long))
header_bytes (a ∷ b ∷ []) number long same version = absurd (omega (arith, long))
header_bytes (a ∷ b ∷ c ∷ []) number long same version = absurd (omega (arith, long))
header_bytes (a ∷ b ∷ c ∷ d ∷ []) number long same version = absurd (omega (arith, long))

-- bytes that show no cause begin with a header
pub header_there : (bytes : List ℕ) → header_cause bytes ≡ None → (version : Version) × (bytes ≡ header version ++ drop 5 bytes)
header_there bytes none =
    let differs = no_cause (not (starts_with eqb magic (take 4 bytes))) _ _ none in
    let short = no_cause (ltb (length bytes) 5) _ _ differs.1 in
    let version = no_cause (not (eqb (slice_index bytes 4) 1 || eqb (slice_index bytes 4) 2)) _ _ short.1 in
    let long = ltb-false _ _ short.0 in
    let same = not-false _ differs.0 in
    elim (cases_Bool (eqb (slice_index bytes 4) 1)) [
      | inl one ↦ (One, header_bytes bytes 1 long same (eqb-true _ _ one))
      | inr other ↦
          let known : (eqb (slice_index bytes 4) 1 || eqb (slice_index bytes 4) 2) ≡ true = not-false _ version.0 in
          let two : eqb (slice_index bytes 4) 2 ≡ true = rw other at known in
          (Two, header_bytes bytes 2 long same (eqb-true _ _ two))
    ]
