-- Runs that are read, and what they stand for.
use Rattle.std.proofs.Common.{◌≡◌, ℕ, ◌+◌, ◌-◌, ◌^◌, ◌<◌, ◌≤◌, true, false, ltb, Bool, List, [], ◌∷◌, ◌++◌, length, slice_index, take, drop, Option, Some, None, refl, sym, ap, subst, ◌∙◌, append_assoc, arith}
use Rattle.std.specs.Prelude.{not, is_some, IfSome, SomeIff}
use Rattle.std.specs.List.{list_all, AllByRecursion}
use Rattle.std.specs.Char.{IsScalar}
use Rattle.std.proofs.Math.Utf8.{scalar}
use Rattle.std.proofs.lemmas.Bool.{lt-ltb, le-ltb}
use Rattle.std.proofs.lemmas.List.{take_all, length-take, length-drop, take-append-le}
use Rattle.byteorder.specs.Endian.{big_number}
use Rattle.bg_types.specs.Identifier.{Identifier}
use Rattle.bg_types.specs.WellFormed.{IsWellFormed}
use Rattle.bg_types.specs.declared.op.Place.TheVariants.{After}
use Rattle.bg_types.specs.declared.op.OpView.{OpView}
use Rattle.bg_types.specs.declared.op.OpView.TheVariants.{Insert}
use Rattle.op_codec.specs.declared.fault.Cause.TheVariants.{CounterOverflow, NotAScalar}
use Rattle.op_codec.specs.Spelling.{frame_fields, next_of, followers}
use Rattle.op_codec.specs.Frames.{MayGoOn, BeginsWith}
use Rattle.op_codec.specs.Fault.{or_else, first_cause, identifier_at, is_run_length, numbers_cause, run_cause, characters_in}
use Rattle.op_codec.proofs.Bytes.{IsBytes}
use Rattle.op_codec.proofs.Frames.{run_parts, further_count, run_spelled}
use Rattle.op_codec.proofs.Characters.{characters_more}

-- ---- the operations of a run

pub one_further : (last next : Identifier) (rest after : List ℕ) (ch : ℕ) → 4 ≤ length rest → after ≡ drop 4 rest → next ≡ next_of last → ch ≡ big_number 4 rest
    → followers last (characters_in rest) ≡ Insert next (After last) ch ∷ followers next (characters_in after)
one_further last next rest after ch long after_is next_is ch_is =
    ap (followers last) (characters_more rest long) ∙ (λ i. Insert (sym next_is i) (After last) (sym ch_is i) ∷ followers (sym next_is i) (characters_in (sym after_is i)))

pub further_pushed : (ops grown more : List OpView) (op : OpView) (left all : List OpView) → ops ++ left ≡ all → left ≡ op ∷ more → grown ≡ ops ++ op ∷ [] → grown ++ more ≡ all
further_pushed ops grown more op left all e left_is grown_is =
    ap (λ (s : List OpView). s ++ more) grown_is ∙ append_assoc ops (op ∷ []) more ∙ ap (λ (s : List OpView). ops ++ s) (sym left_is) ∙ e

pub scalar_first : (rest : List ℕ) → 4 ≤ length rest → AllByRecursion IsScalar (characters_in rest) → IsScalar (big_number 4 rest) × AllByRecursion IsScalar (characters_in (drop 4 rest))
scalar_first rest long all = let both = subst (AllByRecursion IsScalar) (characters_more rest long) all in (both.0, both.1)

pub scalars_more : (rest : List ℕ) → 4 ≤ length rest → scalar (big_number 4 rest) ≡ true → list_all scalar (characters_in rest) ≡ list_all scalar (characters_in (drop 4 rest))
scalars_more rest long is = ap (list_all scalar) (characters_more rest long) ∙ rw is refl

-- a code of which a character is made
pub scalar_made : (o : Option ℕ) (code : ℕ) (none : Bool) → SomeIff o (IsScalar code) code → is_some o ≡ not none → none ≡ false → IsScalar code
scalar_made (Some ch) code none made told there = made.0
scalar_made None code none made told there = absurd (let clash : false ≡ true = told ∙ ap not there in cc)

pub run_begins : (bytes fields rest : List ℕ) (first : OpView) (size : ℕ) → IsBytes bytes → 3 ≤ length bytes → slice_index bytes 2 ≡ 3 → big_number 2 bytes ≡ size → is_run_length size ≡ true → 2 + size ≤ length bytes
    → fields ≡ take (size - 1) (drop 3 bytes) → rest ≡ drop (2 + size) bytes → fields ≡ frame_fields first ++ drop 16 fields → IsWellFormed first → MayGoOn first (characters_in (drop 16 fields))
    → AllByRecursion IsScalar (characters_in (drop 16 fields)) → BeginsWith 1024 bytes (record { first = first; further = characters_in (take (length fields - 16) (drop 16 fields)) }) rest
run_begins bytes fields rest first size fits long kind size_is right whole fields_are rest_is begins ok goes all =
    let sized : length fields ≡ size - 1 = ap (λ (s : List ℕ). length s) fields_are ∙ omega (arith, length-take (size - 1) (drop 3 bytes), length-drop 3 bytes, whole) in
    let parts = run_parts size right in
    let same : take (length fields - 16) (drop 16 fields) ≡ drop 16 fields = take_all (length fields - 16) (drop 16 fields) (omega (arith, length-drop 16 fields)) in
    subst (λ (s : List ℕ). BeginsWith 1024 bytes (record { first = first; further = characters_in s }) rest) (sym same) (record {
      spelled = run_spelled bytes fields rest first size fits long kind size_is right whole fields_are rest_is begins;
      is_frame = record { first = ok; goes_on = goes; scalars = all; few = omega (arith, further_count size fields right sized, parts.2) };
    })

-- ---- what the fields of a run show

pub run_over : (f : List ℕ) → numbers_cause f ≡ None → 2 ^ 32 < (identifier_at f).counter + length (characters_in (drop 12 f)) → run_cause f ≡ Some CounterOverflow
run_over f none over =
    let late : ltb (2 ^ 32) ((identifier_at f).counter + length (characters_in (drop 12 f))) ≡ true = lt-ltb _ _ over in
    λ i. or_else (none i) (first_cause ((late i, CounterOverflow) ∷ (not (list_all scalar (characters_in (drop 12 f))), NotAScalar) ∷ []))

pub run_no_scalar : (f : List ℕ) → numbers_cause f ≡ None → (identifier_at f).counter + length (characters_in (drop 12 f)) ≤ 2 ^ 32 → list_all scalar (characters_in (drop 12 f)) ≡ false → run_cause f ≡ Some NotAScalar
run_no_scalar f none few other =
    let early : ltb (2 ^ 32) ((identifier_at f).counter + length (characters_in (drop 12 f))) ≡ false = le-ltb _ _ few in
    λ i. or_else (none i) (first_cause ((early i, CounterOverflow) ∷ (not (other i), NotAScalar) ∷ []))

-- ---- what calls give

pub made : {A : Type 0} (o : Option A) (x y : A) → o ≡ Some x → IfSome o (λ z. z ≡ y) → x ≡ y
made o x y e h = subst (λ (p : Option _). IfSome p (λ z. z ≡ y)) e h

-- what has grown by one more has grown
pub grown_push : (first ops new : List OpView) (op : OpView) → take (length first) ops ≡ first → new ≡ ops ++ op ∷ [] → take (length first) new ≡ first
grown_push first ops new op e is =
    let longer : length first ≤ length ops = omega (arith, length-take (length first) ops, ap (λ (xs : List OpView). length xs) e) in
    ap (λ (xs : List OpView). take (length first) xs) is ∙ take-append-le (length first) ops (op ∷ []) longer ∙ e
