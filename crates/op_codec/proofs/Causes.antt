-- What fields and frames show, by what is known of their parts.
use Rattle.std.proofs.Common.{◌≡◌, ℕ, ◌≤◌, true, false, Bool, leb, List, [], ◌∷◌, length, slice_index, take, drop, Option, Some, None, refl, sym, ap, ◌∙◌, ◌-◌, arith}
use Rattle.std.specs.Prelude.{◌||◌, not, is_some, if◌then◌else◌}
use Rattle.std.proofs.Math.Utf8.{scalar}
use Rattle.std.proofs.lemmas.Bool.{le-ltb}
use Rattle.std.proofs.lemmas.List.{take_all, length-drop}
use Rattle.byteorder.specs.Endian.{big_number}
use Rattle.bg_types.specs.Identifier.{Identifier}
use Rattle.bg_types.specs.declared.op.Place.{Place}
use Rattle.op_codec.specs.declared.fault.Cause.{Cause}
use Rattle.op_codec.specs.declared.fault.Cause.TheVariants.{Truncated, ZeroField, ParentNotBefore, NotAScalar}
use Rattle.op_codec.specs.declared.position.Version.{Version}
use Rattle.op_codec.specs.Spelling.{parent_identifier}
use Rattle.op_codec.specs.Fault.{first_cause, or_else, identifier_at, has_zero, is_half_zero, numbers_cause, insertion_cause, length_cause, insertion_frame_cause, kind_cause, frame_cause}

not_true : (b : Bool) → true ≡ not b → b ≡ false
not_true true e = e
not_true false e = refl

not_false : (b : Bool) → false ≡ not b → b ≡ true
not_false true e = refl
not_false false e = e

or_true : (b : Bool) → (b || true) ≡ true
or_true true = refl
or_true false = refl

never_true : (b : Bool) → (b ≡ true → ⊥) → b ≡ false
never_true true h = absurd (h refl)
never_true false h = refl

-- a slice up to the end
pub behind : (n : ℕ) (f : List ℕ) → take (length f - n) (drop n f) ≡ drop n f
behind n f = take_all (length f - n) (drop n f) (omega (arith, length-drop n f))

-- ---- the two identifiers of an insertion

-- no identifier was read
pub no_id : (f : List ℕ) (id : Option Identifier) → id ≡ None → is_some id ≡ not (has_zero (identifier_at f)) → numbers_cause f ≡ Some ZeroField
no_id f id none told =
    let late = leb (identifier_at f).counter (identifier_at (drop 6 f)).counter in
    let zero = not_false (has_zero (identifier_at f)) (sym (ap is_some none) ∙ told) in
    λ i. first_cause ((zero i || is_half_zero (identifier_at (drop 6 f)), ZeroField) ∷ (late, ParentNotBefore) ∷ [])

-- no parent was read
pub no_parent : (f : List ℕ) (parent : Option Place) → parent ≡ None → is_some parent ≡ not (is_half_zero (identifier_at (take (length f - 6) (drop 6 f)))) → numbers_cause f ≡ Some ZeroField
no_parent f parent none told =
    let late = leb (identifier_at f).counter (identifier_at (drop 6 f)).counter in
    let told_of = not_false (is_half_zero (identifier_at (take (length f - 6) (drop 6 f)))) (sym (ap is_some none) ∙ told) in
    let half = ap (λ (s : List ℕ). is_half_zero (identifier_at s)) (sym (behind 6 f)) ∙ told_of in
    let zero = ap (λ (b : Bool). has_zero (identifier_at f) || b) half ∙ or_true (has_zero (identifier_at f)) in
    λ i. first_cause ((zero i, ZeroField) ∷ (late, ParentNotBefore) ∷ [])

-- both were read: what is left to show is the order of their counters
pub both_read : (f : List ℕ) (id : Identifier) (parent : Place) (late : Bool) → true ≡ not (has_zero (identifier_at f)) → true ≡ not (is_half_zero (identifier_at (take (length f - 6) (drop 6 f))))
    → id ≡ identifier_at f → parent_identifier parent ≡ identifier_at (take (length f - 6) (drop 6 f)) → late ≡ leb id.counter (parent_identifier parent).counter
    → numbers_cause f ≡ first_cause ((late, ParentNotBefore) ∷ [])
both_read f id parent late some other id_is parent_is late_is =
    let zero = not_true (has_zero (identifier_at f)) some in
    let half = ap (λ (s : List ℕ). is_half_zero (identifier_at s)) (sym (behind 6 f)) ∙ not_true (is_half_zero (identifier_at (take (length f - 6) (drop 6 f)))) other in
    let place = parent_is ∙ ap identifier_at (behind 6 f) in
    let order : leb (identifier_at f).counter (identifier_at (drop 6 f)).counter ≡ late = sym (late_is ∙ (λ i. leb (id_is i).counter (place i).counter)) in
    λ i. first_cause ((zero i || half i, ZeroField) ∷ (order i, ParentNotBefore) ∷ [])

-- ---- the fields of an insertion

parted : (z l s : Bool) → first_cause ((z, ZeroField) ∷ (l, ParentNotBefore) ∷ (s, NotAScalar) ∷ []) ≡ or_else (first_cause ((z, ZeroField) ∷ (l, ParentNotBefore) ∷ [])) (first_cause ((s, NotAScalar) ∷ []))
parted true l s = refl
parted false true s = refl
parted false false s = refl

insertion_parts : (f : List ℕ) → insertion_cause f ≡ or_else (numbers_cause f) (first_cause ((not (scalar (big_number 4 (drop 12 f))), NotAScalar) ∷ []))
insertion_parts f =
    parted (has_zero (identifier_at f) || is_half_zero (identifier_at (drop 6 f))) (leb (identifier_at f).counter (identifier_at (drop 6 f)).counter) (not (scalar (big_number 4 (drop 12 f))))

pub insertion_numbers : (f : List ℕ) (cause : Cause) → numbers_cause f ≡ Some cause → insertion_cause f ≡ Some cause
insertion_numbers f cause shown = insertion_parts f ∙ ap (λ (n : Option Cause). or_else n (first_cause ((not (scalar (big_number 4 (drop 12 f))), NotAScalar) ∷ []))) shown

pub insertion_no_scalar : (f : List ℕ) (ch : ℕ) → numbers_cause f ≡ None → ch ≡ big_number 4 (drop 12 f) → (scalar ch ≡ true → ⊥) → insertion_cause f ≡ Some NotAScalar
insertion_no_scalar f ch none is other =
    let shown = sym (ap scalar is) ∙ never_true (scalar ch) other in
    insertion_parts f ∙ (λ i. or_else (none i) (first_cause ((not (shown i), NotAScalar) ∷ [])))

-- the frame of such fields, of the right length
pub insertion_framed : (bytes fields : List ℕ) (cause : Cause) → length_cause 17 bytes ≡ None → fields ≡ take 16 (drop 3 bytes) → insertion_cause fields ≡ Some cause → insertion_frame_cause bytes ≡ Some cause
insertion_framed bytes fields cause whole fields_are shown = λ i. or_else (whole i) ((ap insertion_cause (sym fields_are) ∙ shown) i)

-- ---- a frame

-- a frame with a kind shows what it shows by that
pub by_kind : (version : Version) (bytes : List ℕ) (kind : ℕ) → 3 ≤ length bytes → slice_index bytes 2 ≡ kind → frame_cause version bytes ≡ kind_cause version kind bytes
by_kind version bytes kind long is =
    let there = le-ltb (length bytes) 3 long in
    λ i. if there i then Some Truncated else kind_cause version (is i) bytes
