-- Fields and frames that were read are spelled by their bytes.
use Rattle.std.proofs.Common.{◌≡◌, ℕ, ◌+◌, ◌-◌, ◌*◌, ◌<◌, ◌≤◌, true, eqb, leb, List, [], ◌∷◌, ◌++◌, length, slice_index, take, drop, drop-cons, refl, sym, ap, subst, ◌∙◌, append_assoc, arith}
use Rattle.std.specs.Prelude.{◌&&◌}
use Rattle.std.specs.List.{flat_map}
use Rattle.std.proofs.lemmas.Bool.{and_parts, eqb-true, leb-true}
use Rattle.std.proofs.lemmas.List.{take-append-drop, length-take, length-drop, drop-drop, drop_all, append-nil}
use Rattle.byteorder.specs.Endian.{big_bytes, big_number}
use Rattle.bg_types.specs.Identifier.{Identifier}
use Rattle.bg_types.specs.declared.op.Place.{Place}
use Rattle.bg_types.specs.declared.op.OpView.{OpView}
use Rattle.bg_types.specs.declared.op.OpView.TheVariants.{Insert, Erase}
use Rattle.op_codec.specs.Spelling.{identifier_bytes, parent_identifier, frame, frame_kind, frame_fields, bytes_with}
use Rattle.op_codec.specs.Fault.{identifier_at, run_count, is_run_length, characters_in}
use Rattle.op_codec.proofs.Bytes.{IsBytes, IsBytes-drop, IsBytes-take, two_bytes, four_bytes, identifier_takes}
use Rattle.op_codec.proofs.Characters.{length-characters_in, characters_spelled}

-- the fields of a deletion spell it
pub erasure_fields : (f : List ℕ) (target : Identifier) → IsBytes f → length f ≡ 6 → target ≡ identifier_at f → frame_fields (Erase target) ≡ f
erasure_fields f target fits six at =
    ap identifier_bytes at ∙ sym (append-nil (identifier_bytes (identifier_at f)))
    ∙ ap (λ (r : List ℕ). identifier_bytes (identifier_at f) ++ r) (sym (drop_all 6 f (omega arith))) ∙ sym (identifier_takes f fits (omega arith))

insertion_takes : (f : List ℕ) → IsBytes f → length f ≡ 16
    → f ≡ identifier_bytes (identifier_at f) ++ (identifier_bytes (identifier_at (drop 6 f)) ++ big_bytes 4 (big_number 4 (drop 12 f)))
insertion_takes f fits sixteen =
    let id = identifier_bytes (identifier_at f) in
    let parent = identifier_bytes (identifier_at (drop 6 f)) in
    let ch = big_bytes 4 (big_number 4 (drop 12 f)) in
    let none : drop 4 (drop 12 f) ≡ [] = drop-drop 4 12 f ∙ drop_all 16 f (omega arith) in
    let last : drop 12 f ≡ ch =
    four_bytes (drop 12 f) (IsBytes-drop 12 f fits) (omega (arith, length-drop 12 f)) ∙ ap (λ (r : List ℕ). ch ++ r) none ∙ append-nil ch in
    let middle : drop 6 f ≡ parent ++ ch =
    identifier_takes (drop 6 f) (IsBytes-drop 6 f fits) (omega (arith, length-drop 6 f)) ∙ ap (λ (r : List ℕ). parent ++ r) (drop-drop 6 6 f ∙ last) in
    identifier_takes f fits (omega arith) ∙ ap (λ (r : List ℕ). id ++ r) middle

-- the fields of an insertion spell it
pub insertion_fields : (f : List ℕ) (id : Identifier) (parent : Place) (ch : ℕ) → IsBytes f → length f ≡ 16
    → id ≡ identifier_at f → parent_identifier parent ≡ identifier_at (drop 6 f) → ch ≡ big_number 4 (drop 12 f) → frame_fields (Insert id parent ch) ≡ f
insertion_fields f id parent ch fits sixteen id_is parent_is ch_is =
    (λ i. identifier_bytes (id_is i) ++ (identifier_bytes (parent_is i) ++ big_bytes 4 (ch_is i))) ∙ sym (insertion_takes f fits sixteen)

-- bytes begin with a frame: its length, its kind, and this many bytes as fields
frame_takes : (bytes fields : List ℕ) (size kind m : ℕ) → IsBytes bytes → 3 ≤ length bytes → slice_index bytes 2 ≡ kind → big_number 2 bytes ≡ size
    → fields ≡ take m (drop 3 bytes) → bytes ≡ (big_bytes 2 size ++ kind ∷ fields) ++ drop (3 + m) bytes
frame_takes bytes fields size kind m fits long kind_is size_is fields_are =
    let rest : drop m (drop 3 bytes) ≡ drop (3 + m) bytes = drop-drop m 3 bytes in
    let text : drop 3 bytes ≡ fields ++ drop (3 + m) bytes = sym (take-append-drop m (drop 3 bytes)) ∙ (λ i. sym fields_are i ++ rest i) in
    let third : drop 2 bytes ≡ kind ∷ (fields ++ drop (3 + m) bytes) = drop-cons bytes 2 0 (omega arith) ∙ (λ i. kind_is i ∷ text i) in
    two_bytes bytes fits (omega arith) ∙ (λ i. big_bytes 2 (size_is i) ++ third i) ∙ sym (append_assoc (big_bytes 2 size) (kind ∷ fields) (drop (3 + m) bytes))

pub insertion_spelled : (bytes fields rest : List ℕ) (op : OpView) → IsBytes bytes → 3 ≤ length bytes → slice_index bytes 2 ≡ 1 → big_number 2 bytes ≡ 17
    → fields ≡ take 16 (drop 3 bytes) → rest ≡ drop 19 bytes → frame_kind op ≡ 1 → frame_fields op ≡ fields → bytes ≡ frame op ++ rest
insertion_spelled bytes fields rest (Insert id parent ch) fits long kind size fields_are rest_is is spelled =
    frame_takes bytes (frame_fields (Insert id parent ch)) 17 1 16 fits long kind size (spelled ∙ fields_are) ∙ ap (λ (r : List ℕ). frame (Insert id parent ch) ++ r) (sym rest_is)
insertion_spelled bytes fields rest (Erase target) fits long kind size fields_are rest_is is spelled = absurd (omega (arith, is))

pub erasure_spelled : (bytes fields rest : List ℕ) (op : OpView) → IsBytes bytes → 3 ≤ length bytes → slice_index bytes 2 ≡ 2 → big_number 2 bytes ≡ 7
    → fields ≡ take 6 (drop 3 bytes) → rest ≡ drop 9 bytes → frame_kind op ≡ 2 → frame_fields op ≡ fields → bytes ≡ frame op ++ rest
erasure_spelled bytes fields rest (Erase target) fits long kind size fields_are rest_is is spelled =
    frame_takes bytes (frame_fields (Erase target)) 7 2 6 fits long kind size (spelled ∙ fields_are) ∙ ap (λ (r : List ℕ). frame (Erase target) ++ r) (sym rest_is)
erasure_spelled bytes fields rest (Insert id parent ch) fits long kind size fields_are rest_is is spelled = absurd (omega (arith, is))

-- ---- runs

-- a run's length is 13 plus four for each insertion
pub run_parts : (size : ℕ) → is_run_length size ≡ true → (size ≡ 13 + 4 * run_count size) × (2 ≤ run_count size) × (run_count size ≤ 1024)
run_parts size right =
    let last = and_parts (leb 2 (run_count size) && leb (run_count size) 1024) (eqb (13 + 4 * run_count size) size) right in
    let both = and_parts (leb 2 (run_count size)) (leb (run_count size) 1024) last.0 in
    (sym (eqb-true _ _ last.1), leb-true _ _ both.0, leb-true _ _ both.1)

-- fields begin with those of an insertion
pub run_fields : (f : List ℕ) (id : Identifier) (parent : Place) (ch : ℕ) → IsBytes f → 16 ≤ length f
    → id ≡ identifier_at f → parent_identifier parent ≡ identifier_at (drop 6 f) → ch ≡ big_number 4 (drop 12 f) → f ≡ frame_fields (Insert id parent ch) ++ drop 16 f
run_fields f id parent ch fits long id_is parent_is ch_is =
    let i = identifier_bytes (identifier_at f) in
    let p = identifier_bytes (identifier_at (drop 6 f)) in
    let c = big_bytes 4 (big_number 4 (drop 12 f)) in
    let last : drop 12 f ≡ c ++ drop 16 f = four_bytes (drop 12 f) (IsBytes-drop 12 f fits) (omega (arith, long, length-drop 12 f)) ∙ ap (λ (r : List ℕ). c ++ r) (drop-drop 4 12 f) in
    let middle : drop 6 f ≡ p ++ (c ++ drop 16 f) = identifier_takes (drop 6 f) (IsBytes-drop 6 f fits) (omega (arith, long, length-drop 6 f)) ∙ ap (λ (r : List ℕ). p ++ r) (drop-drop 6 6 f ∙ last) in
    let whole : f ≡ i ++ (p ++ (c ++ drop 16 f)) = identifier_takes f fits (omega (arith, long)) ∙ ap (λ (r : List ℕ). i ++ r) middle in
    whole ∙ (λ n. identifier_bytes (sym id_is n) ++ (identifier_bytes (sym parent_is n) ++ (big_bytes 4 (sym ch_is n) ++ drop 16 f)))

with_more : (first : OpView) (chars : List ℕ) → 0 < length chars → bytes_with first chars ≡ big_bytes 2 (17 + 4 * length chars) ++ 3 ∷ (frame_fields first ++ flat_map (big_bytes 4) chars)
with_more first [] some = absurd (omega (arith, some))
with_more first (c ∷ cs) some = refl

-- how many further characters a run's fields have
pub further_count : (size : ℕ) (fields : List ℕ) → is_run_length size ≡ true → length fields ≡ size - 1 → length (characters_in (drop 16 fields)) + 1 ≡ run_count size
further_count size fields right sized =
    let parts = run_parts size right in
    omega (arith, length-characters_in (drop 16 fields), length-drop 16 fields, sized, parts.0, parts.1)

pub run_spelled : (bytes fields rest : List ℕ) (first : OpView) (size : ℕ) → IsBytes bytes → 3 ≤ length bytes → slice_index bytes 2 ≡ 3 → big_number 2 bytes ≡ size → is_run_length size ≡ true → 2 + size ≤ length bytes
    → fields ≡ take (size - 1) (drop 3 bytes) → rest ≡ drop (2 + size) bytes → fields ≡ frame_fields first ++ drop 16 fields → bytes ≡ bytes_with first (characters_in (drop 16 fields)) ++ rest
run_spelled bytes fields rest first size fits long kind size_is right whole fields_are rest_is begins =
    let parts = run_parts size right in
    let chars = characters_in (drop 16 fields) in
    let sized : length fields ≡ size - 1 = ap (λ (s : List ℕ). length s) fields_are ∙ omega (arith, length-take (size - 1) (drop 3 bytes), length-drop 3 bytes, whole) in
    let count = further_count size fields right sized in
    let fits' : IsBytes fields = subst IsBytes (sym fields_are) (IsBytes-take (size - 1) (drop 3 bytes) (IsBytes-drop 3 bytes fits)) in
    let last : flat_map (big_bytes 4) chars ≡ drop 16 fields = characters_spelled (run_count size - 1) (drop 16 fields) (IsBytes-drop 16 fields fits') (omega (arith, length-drop 16 fields, sized, parts.0, parts.1)) in
    let all : fields ≡ frame_fields first ++ flat_map (big_bytes 4) chars = begins ∙ ap (λ (s : List ℕ). frame_fields first ++ s) (sym last) in
    let size_of : size ≡ 17 + 4 * length chars = omega (arith, parts.0, parts.1, count) in
    let behind : 3 + (size - 1) ≡ 2 + size = omega (arith, parts.0) in
    frame_takes bytes fields size 3 (size - 1) fits long kind size_is fields_are
    ∙ (λ i. (big_bytes 2 (size_of i) ++ 3 ∷ all i) ++ drop (behind i) bytes)
    ∙ (λ i. sym (with_more first chars (omega (arith, count, parts.1))) i ++ sym rest_is i)
