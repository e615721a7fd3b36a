-- The header, and the frame of a well-formed operation, show no cause.
use Rattle.std.proofs.Common.{◌≡◌, ℕ, ◌+◌, ◌-◌, ◌*◌, ◌^◌, ◌<◌, ◌≤◌, true, false, eqb, leb, ltb, Bool, cond, List, [], ◌∷◌, ◌++◌, length, slice_index, take, drop, Option, Some, None, refl, sym, ap, ◌∙◌, arith}
use Rattle.std.specs.Prelude.{nat_le, ◌&&◌, not}
use Rattle.std.specs.List.{flat_map, list_all, AllByRecursion}
use Rattle.std.specs.Char.{IsScalar}
use Rattle.std.proofs.Math.Utf8.{scalar, scalar_fits}
use Rattle.std.proofs.lemmas.Bool.{le-ltb, eq-eqb}
use Rattle.std.proofs.lemmas.Bool.Decides.{nat_tests}
use Rattle.std.proofs.Math.Seq.{take-append_seam}
use Rattle.std.proofs.lemmas.List.{length-append}
use Rattle.std.proofs.lemmas.List.Concat.{flat_map-cons}
use Rattle.byteorder.specs.Endian.{big_bytes, big_number}
use Rattle.byteorder.specs.Numbers.{big_number-reads_back}
use Rattle.bg_types.specs.Identifier.{Identifier, IsIdentifier}
use Rattle.bg_types.specs.WellFormed.{IsWellFormed, MayFollow}
use Rattle.bg_types.specs.declared.op.Place.{Place}
use Rattle.bg_types.specs.declared.op.Place.TheVariants.{Root, After}
use Rattle.bg_types.specs.declared.op.OpView.{OpView}
use Rattle.bg_types.specs.declared.op.OpView.TheVariants.{Insert, Erase}
use Rattle.op_codec.specs.declared.fault.Cause.TheVariants.{BadLength, NotJoined}
use Rattle.op_codec.specs.declared.position.Version.{Version}
use Rattle.op_codec.specs.declared.position.Version.TheVariants.{One, Two}
use Rattle.op_codec.specs.Spelling.{header, identifier_bytes, parent_identifier, frame, Frame, bytes_with, frame_bytes, follows, joins, most_insertions}
use Rattle.op_codec.specs.Frames.{MayGoOn, IsFrame}
use Rattle.op_codec.specs.Fault.{first_cause, or_else, header_cause, identifier_at, has_zero, is_half_zero, insertion_cause, erasure_cause, length_cause, kind_cause, frame_cause, run_count, is_run_length, run_cause, run_frame_cause, characters_in, joined_cause, cause_at}
use Rattle.op_codec.proofs.ReadBack.{identifier_again, parent_fits}
use Rattle.op_codec.proofs.Characters.{characters_of, scalars_tested, length-bytes}

pub header_cause-header : (version : Version) (rest : List ℕ) → header_cause (header version ++ rest) ≡ None
header_cause-header One rest =
    let long : ltb (length (header One ++ rest)) 5 ≡ false = le-ltb _ _ (omega arith) in
    rw long refl
header_cause-header Two rest =
    let long : ltb (length (header Two ++ rest)) 5 ≡ false = le-ltb _ _ (omega arith) in
    rw long refl

no_zero : (id : Identifier) → IsIdentifier id → has_zero id ≡ false
no_zero id ok =
    let counter : eqb id.counter 0 ≡ false = grind (arith, nat_tests, ok.counter_positive) in
    let site : eqb id.site 0 ≡ false = grind (arith, nat_tests, ok.site_positive) in
    rw (counter, site) refl

whole_parent : (place : Place) (id : Identifier) → MayFollow place id → is_half_zero (parent_identifier place) ≡ false
whole_parent Root id ok = refl
whole_parent (After parent) id ok = rw (no_zero parent ok.0) refl

earlier_parent : (place : Place) (id : Identifier) → IsIdentifier id → MayFollow place id → nat_le id.counter (parent_identifier place).counter ≡ false
earlier_parent Root id fits ok = grind (arith, nat_tests, fits.counter_positive)
earlier_parent (After parent) id fits ok = grind (arith, nat_tests, ok.1)

right_length : (size : ℕ) (bytes : List ℕ) → big_number 2 bytes ≡ size → 2 + size ≤ length bytes → length_cause size bytes ≡ None
right_length size bytes is long =
    let same : eqb (big_number 2 bytes) size ≡ true = eq-eqb _ _ is in
    let enough : ltb (length bytes) (2 + size) ≡ false = le-ltb _ _ long in
    rw (same, enough) refl

right_frame : (version : Version) (kind : ℕ) (bytes : List ℕ) → slice_index bytes 2 ≡ kind → 3 ≤ length bytes → kind_cause version kind bytes ≡ None → frame_cause version bytes ≡ None
right_frame version kind bytes is long none =
    let enough : ltb (length bytes) 3 ≡ false = le-ltb _ _ long in
    rw (enough, is) none

right_erasure : (fields : List ℕ) → has_zero (identifier_at fields) ≡ false → erasure_cause fields ≡ None
right_erasure fields zero = rw zero refl

right_insertion : (fields : List ℕ) → has_zero (identifier_at fields) ≡ false → is_half_zero (identifier_at (drop 6 fields)) ≡ false
    → nat_le (identifier_at fields).counter (identifier_at (drop 6 fields)).counter ≡ false → scalar (big_number 4 (drop 12 fields)) ≡ true → insertion_cause fields ≡ None
right_insertion fields zero half early character = rw (zero, half, early, character) refl

op_right : (version : Version) (op : OpView) (rest : List ℕ) → IsWellFormed op → frame_cause version (frame op ++ rest) ≡ None
op_right version (Erase t) rest ok =
    let bytes = frame (Erase t) ++ rest in
    let fields : erasure_cause (take 6 (drop 3 bytes)) ≡ None = right_erasure (take 6 (drop 3 bytes)) (ap has_zero (identifier_again t (take 0 rest) ok.counter_fits ok.site_fits) ∙ no_zero t ok) in
    let size : length_cause 7 bytes ≡ None = right_length 7 bytes refl (omega arith) in
    right_frame version 2 bytes refl (omega arith) (rw (size) fields)
op_right version (Insert i p c) rest ok =
    let bytes = frame (Insert i p c) ++ rest in
    let none = take 0 rest in
    let f = parent_fits p i ok.1 in
    let id = identifier_again i (identifier_bytes (parent_identifier p) ++ (big_bytes 4 c ++ none)) ok.0.counter_fits ok.0.site_fits in
    let parent = identifier_again (parent_identifier p) (big_bytes 4 c ++ none) f.0 f.1 in
    let ch = big_number-reads_back 4 c none (scalar_fits c ok.2) in
    let fields : insertion_cause (take 16 (drop 3 bytes)) ≡ None =
    right_insertion (take 16 (drop 3 bytes)) (ap has_zero id ∙ no_zero i ok.0) (ap is_half_zero parent ∙ whole_parent p i ok.1)
    ((λ k. nat_le (id k).counter (parent k).counter) ∙ earlier_parent p i ok.0 ok.1) (ap scalar ch ∙ ok.2) in
    let size : length_cause 17 bytes ≡ None = right_length 17 bytes refl (omega arith) in
    right_frame version 1 bytes refl (omega arith) (rw (size) fields)

-- ---- a run

right_count : (n : ℕ) → 2 ≤ n → n ≤ 1024 → is_run_length (13 + 4 * n) ≡ true
right_count n low high =
    let count : run_count (13 + 4 * n) ≡ n = omega arith in
    let one : leb 2 n ≡ true = grind (arith, nat_tests, low) in
    let two : leb n 1024 ≡ true = grind (arith, nat_tests, high) in
    let three : eqb (13 + 4 * n) (13 + 4 * n) ≡ true = eq-eqb _ _ refl in
    (λ i. leb 2 (count i) && leb (count i) 1024 && eqb (13 + 4 * count i) (13 + 4 * n)) ∙ (λ i. one i && two i && three i)

right_run : (fields : List ℕ) → has_zero (identifier_at fields) ≡ false → is_half_zero (identifier_at (drop 6 fields)) ≡ false
    → nat_le (identifier_at fields).counter (identifier_at (drop 6 fields)).counter ≡ false → ltb (2 ^ 32) ((identifier_at fields).counter + length (characters_in (drop 12 fields))) ≡ false
    → list_all scalar (characters_in (drop 12 fields)) ≡ true → run_cause fields ≡ None
right_run fields zero half early few characters = rw (zero, half, early, few, characters) refl

run_sized : (bytes : List ℕ) (size : ℕ) → big_number 2 bytes ≡ size → is_run_length size ≡ true → length_cause size bytes ≡ None → run_cause (take (size - 1) (drop 3 bytes)) ≡ None → run_frame_cause bytes ≡ None
run_sized bytes size is right long fields =
    (λ i. cond (is_run_length (is i)) (or_else (length_cause (is i) bytes) (run_cause (take (is i - 1) (drop 3 bytes)))) (Some BadLength))
    ∙ (λ i. cond (right i) (or_else (long i) (fields i)) (Some BadLength))

run_right : (i : Identifier) (p : Place) (c k : ℕ) (cs rest : List ℕ) → IsWellFormed (Insert i p c) → i.counter + length (k ∷ cs) < 2 ^ 32 → AllByRecursion IsScalar (k ∷ cs) → length (k ∷ cs) ≤ 1023
    → frame_cause Two (bytes_with (Insert i p c) (k ∷ cs) ++ rest) ≡ None
run_right i p c k cs rest ok goes all few =
    let chars = k ∷ cs in
    let more = flat_map (big_bytes 4) chars in
    let bytes = bytes_with (Insert i p c) chars ++ rest in
    let size = 17 + 4 * length chars in
    let fields = identifier_bytes i ++ (identifier_bytes (parent_identifier p) ++ (big_bytes 4 c ++ more)) in
    let f = parent_fits p i ok.1 in
    let size_is : big_number 2 bytes ≡ size = big_number-reads_back 2 size (3 ∷ (fields ++ rest)) (omega (arith, few)) in
    let count : size ≡ 13 + 4 * (length chars + 1) = omega arith in
    let right : is_run_length size ≡ true = ap is_run_length count ∙ right_count (length chars + 1) (omega arith) (omega (arith, few)) in
    let whole : 2 + size ≤ length bytes = omega (arith, length-append more rest, length-bytes chars) in
    let sized : length fields ≡ size - 1 = omega (arith, length-bytes chars) in
    let fields_are : take (size - 1) (drop 3 bytes) ≡ fields = ap (λ (n : ℕ). take n (fields ++ rest)) (sym sized) ∙ take-append_seam fields rest in
    let id = identifier_again i (identifier_bytes (parent_identifier p) ++ (big_bytes 4 c ++ more)) ok.0.counter_fits ok.0.site_fits in
    let parent = identifier_again (parent_identifier p) (big_bytes 4 c ++ more) f.0 f.1 in
    let scalars : AllByRecursion IsScalar (c ∷ chars) = (ok.2, all) in
    let last : characters_in (drop 12 fields) ≡ c ∷ chars = ap characters_in (sym (flat_map-cons (big_bytes 4) c chars)) ∙ characters_of (c ∷ chars) scalars in
    let enough : ltb (2 ^ 32) (i.counter + length (c ∷ chars)) ≡ false = le-ltb _ _ (omega (arith, goes)) in
    let none : run_cause fields ≡ None =
    right_run fields (ap has_zero id ∙ no_zero i ok.0) (ap is_half_zero parent ∙ whole_parent p i ok.1)
    ((λ n. nat_le (id n).counter (parent n).counter) ∙ earlier_parent p i ok.0 ok.1)
    ((λ n. ltb (2 ^ 32) ((id n).counter + length (last n))) ∙ enough) (ap (list_all scalar) last ∙ scalars_tested (c ∷ chars) scalars) in
    right_frame Two 3 bytes refl (omega arith) (run_sized bytes size size_is right (right_length size bytes size_is whole) (ap run_cause fields_are ∙ none))

whole_right : (version : Version) (first : OpView) (further rest : List ℕ) → IsWellFormed first → MayGoOn first further → AllByRecursion IsScalar further → length further + 1 ≤ most_insertions version
    → frame_cause version (bytes_with first further ++ rest) ≡ None
whole_right version first [] rest ok goes all few = op_right version first rest ok
whole_right version (Erase t) (k ∷ cs) rest ok goes all few = absurd goes
whole_right One (Insert i p c) (k ∷ cs) rest ok goes all few = absurd (omega (arith, few))
whole_right Two (Insert i p c) (k ∷ cs) rest ok goes all few = run_right i p c k cs rest ok goes all (omega (arith, few))

pub frame_cause-frame : (version : Version) (f : Frame) (rest : List ℕ) → IsFrame (most_insertions version) f → frame_cause version (frame_bytes f ++ rest) ≡ None
frame_cause-frame version f rest is = whole_right version f.first f.further rest is.first is.goes_on is.scalars is.few

-- ---- what is joined

joined_numbers : (before i : Identifier) (parent : Identifier) (kind : ℕ) (bytes : List ℕ) → eqb kind 2 ≡ false → slice_index bytes 2 ≡ kind → identifier_at (drop 3 bytes) ≡ i → identifier_at (drop 9 bytes) ≡ parent
    → joined_cause (Some before) bytes ≡ first_cause ((follows before i parent, NotJoined) ∷ [])
joined_numbers before i parent kind bytes other is id_is parent_is =
    (λ n. first_cause ((not (eqb (is n) 2) && follows before (id_is n) (parent_is n), NotJoined) ∷ [])) ∙ (λ n. first_cause ((not (other n) && follows before i parent, NotJoined) ∷ []))

joined_insertion : (before i : Identifier) (p : Place) (c : ℕ) (further rest : List ℕ) → IsWellFormed (Insert i p c)
    → joined_cause (Some before) (bytes_with (Insert i p c) further ++ rest) ≡ first_cause ((joins (Some before) (Insert i p c), NotJoined) ∷ [])
joined_insertion before i p c [] rest ok =
    let f = parent_fits p i ok.1 in
    let id = identifier_again i (identifier_bytes (parent_identifier p) ++ (big_bytes 4 c ++ rest)) ok.0.counter_fits ok.0.site_fits in
    let parent = identifier_again (parent_identifier p) (big_bytes 4 c ++ rest) f.0 f.1 in
    joined_numbers before i (parent_identifier p) 1 (bytes_with (Insert i p c) [] ++ rest) refl refl id parent
joined_insertion before i p c (k ∷ cs) rest ok =
    let f = parent_fits p i ok.1 in
    let more = flat_map (big_bytes 4) (k ∷ cs) ++ rest in
    let id = identifier_again i (identifier_bytes (parent_identifier p) ++ (big_bytes 4 c ++ more)) ok.0.counter_fits ok.0.site_fits in
    let parent = identifier_again (parent_identifier p) (big_bytes 4 c ++ more) f.0 f.1 in
    joined_numbers before i (parent_identifier p) 3 (bytes_with (Insert i p c) (k ∷ cs) ++ rest) refl refl id parent

-- the bytes of a frame show whether it joins what stands before it
pub joined_cause-frame : (before : Option Identifier) (first : OpView) (further rest : List ℕ) → IsWellFormed first → MayGoOn first further
    → joined_cause before (bytes_with first further ++ rest) ≡ first_cause ((joins before first, NotJoined) ∷ [])
joined_cause-frame None first further rest ok goes = refl
joined_cause-frame (Some before) (Erase t) [] rest ok goes = refl
joined_cause-frame (Some before) (Erase t) (k ∷ cs) rest ok goes = absurd goes
joined_cause-frame (Some before) (Insert i p c) further rest ok goes = joined_insertion before i p c further rest ok

pub cause_at-frame : (version : Version) (before : Option Identifier) (f : Frame) (rest : List ℕ) → IsFrame (most_insertions version) f → joins before f.first ≡ false → cause_at version before (frame_bytes f ++ rest) ≡ None
cause_at-frame version before f rest is free =
    let joined : joined_cause before (frame_bytes f ++ rest) ≡ None = joined_cause-frame before f.first f.further rest is.first is.goes_on ∙ ap (λ (b : Bool). first_cause ((b, NotJoined) ∷ [])) free in
    λ i. or_else (frame_cause-frame version f rest is i) (joined i)

-- a whole frame that joins what stands before it
pub cause_at-joined : (version : Version) (before : Option Identifier) (f : Frame) (rest : List ℕ) → IsFrame (most_insertions version) f → joins before f.first ≡ true → cause_at version before (frame_bytes f ++ rest) ≡ Some NotJoined
cause_at-joined version before f rest is joined =
    let shown : joined_cause before (frame_bytes f ++ rest) ≡ Some NotJoined = joined_cause-frame before f.first f.further rest is.first is.goes_on ∙ ap (λ (b : Bool). first_cause ((b, NotJoined) ∷ [])) joined in
    λ i. or_else (frame_cause-frame version f rest is i) (shown i)
