-- What a beginning of a header or of a frame shows, it also shows with more bytes after it, except a missing byte.
use Rattle.std.proofs.Common.{◌≡◌, ◌≢◌, ℕ, ◌+◌, ◌-◌, ◌^◌, ◌<◌, ◌≤◌, true, false, eqb, ltb, Bool, cond, List, [], ◌∷◌, ◌++◌, length, slice_index, take, drop, Option, Some, None, refl, sym, ap, ◌∙◌, arith, inl, inr, ◌⊎◌}
use Rattle.std.specs.Prelude.{◌||◌, ◌&&◌, not, nat_le}
use Rattle.std.specs.List.{starts_with, list_all}
use Rattle.std.proofs.Math.Utf8.{scalar}
use Rattle.std.proofs.lemmas.Bool.{cases_lt, cases_Bool, lt-ltb, le-ltb, ltb-false}
use Rattle.std.proofs.lemmas.List.{length-append, length-drop, take-append-le, drop-append-le, get_or_append_left}
use Rattle.byteorder.specs.Endian.{big_number}
use Rattle.byteorder.specs.Numbers.{big_from-append}
use Rattle.op_codec.specs.declared.fault.Cause.{Cause}
use Rattle.op_codec.specs.declared.fault.Cause.TheVariants.{BadMagic, BadVersion, Truncated, UnknownKind, BadLength, ZeroField, ParentNotBefore, CounterOverflow, NotAScalar, NotJoined}
use Rattle.op_codec.specs.declared.position.Version.{Version}
use Rattle.bg_types.specs.Identifier.{Identifier}
use Rattle.op_codec.specs.Spelling.{magic, follows, most_insertions}
use Rattle.op_codec.specs.Fault.{first_cause, or_else, header_cause, identifier_at, has_zero, is_half_zero, erasure_cause, insertion_cause, length_cause, is_run_length, run_cause, run_frame_cause, characters_in, frame_cause, joined_cause, cause_at}
use Rattle.op_codec.proofs.Frames.{run_parts}
use Rattle.op_codec.proofs.Shown.{no_cause, neither, length_right, cause_or_none}

-- bytes are missing, or what they show stays
pub data Settles (cause_of : List ℕ → Option Cause) (most : ℕ) (xs more : List ℕ) : Type 0 where
  missing : cause_of xs ≡ Some Truncated → length xs < most → Settles cause_of most xs more
  settled : cause_of (xs ++ more) ≡ cause_of xs → cause_of xs ≢ Some Truncated → Settles cause_of most xs more

-- ---- the header

abbrev header_of : (right short version : Bool) → Option Cause
header_of right short version = first_cause ((not right, BadMagic) ∷ (short, Truncated) ∷ (not version, BadVersion) ∷ [])

abbrev is_right : List ℕ → Bool
is_right bytes = starts_with eqb magic (take 4 bytes)

abbrev short_of : List ℕ → Bool
short_of bytes = ltb (length bytes) 5

abbrev version_of : List ℕ → Bool
version_of bytes = eqb (slice_index bytes 4) 1 || eqb (slice_index bytes 4) 2

one_byte : (a r : Bool) → (a && true) ≡ false → (a && r) ≡ false
one_byte true r e = absurd cc
one_byte false r e = refl

two_bytes : (a b r : Bool) → (a && (b && true)) ≡ false → (a && (b && r)) ≡ false
two_bytes true b r e = one_byte b r e
two_bytes false b r e = refl

three_bytes : (a b c r : Bool) → (a && (b && (c && true))) ≡ false → (a && (b && (c && r))) ≡ false
three_bytes true b c r e = two_bytes b c r e
three_bytes false b c r e = refl

wrong_again : (xs more : List ℕ) → is_right xs ≡ false → is_right (xs ++ more) ≡ false
wrong_again [] more e = absurd cc
wrong_again (a ∷ []) more e = one_byte (eqb a 66) (starts_with eqb (71 ∷ 79 ∷ 80 ∷ []) (take 3 more)) e
wrong_again (a ∷ b ∷ []) more e = two_bytes (eqb a 66) (eqb b 71) (starts_with eqb (79 ∷ 80 ∷ []) (take 2 more)) e
wrong_again (a ∷ b ∷ c ∷ []) more e = three_bytes (eqb a 66) (eqb b 71) (eqb c 79) (starts_with eqb (80 ∷ []) (take 1 more)) e
wrong_again (a ∷ b ∷ c ∷ d ∷ rest) more e = e

right_again : (xs more : List ℕ) → 5 ≤ length xs → is_right (xs ++ more) ≡ is_right xs
right_again xs more long = ap (λ (front : List ℕ). starts_with eqb magic front) (take-append-le 4 xs more (omega (arith, long)))

whole_header : (version : Bool) → header_of true false version ≢ Some Truncated
whole_header true e = cc
whole_header false e = cc

pub header_settles : (xs more : List ℕ) → Settles header_cause 5 xs more
header_settles xs more = by_magic (is_right xs) refl where
  by_length : is_right xs ≡ true → (length xs < 5) ⊎ (5 ≤ length xs) → Settles header_cause 5 xs more
  by_length right (inl few) = missing (λ i. header_of (right i) (lt-ltb (length xs) 5 few i) (version_of xs)) few
  by_length right (inr long) =
      let here : header_cause xs ≡ header_of true false (version_of xs) = λ i. header_of (right i) (le-ltb (length xs) 5 long i) (version_of xs) in
      let fifth : version_of (xs ++ more) ≡ version_of xs = ap (λ (n : ℕ). eqb n 1 || eqb n 2) (get_or_append_left xs more 0 4 (omega (arith, long))) in
      let longer : 5 ≤ length (xs ++ more) = omega (arith, long, length-append xs more) in
      let there : header_cause (xs ++ more) ≡ header_of true false (version_of xs) =
      λ i. header_of ((right_again xs more long ∙ right) i) (le-ltb (length (xs ++ more)) 5 longer i) (fifth i) in
      settled (there ∙ sym here) (λ e. whole_header (version_of xs) (sym here ∙ e))

  by_magic : (right : Bool) → is_right xs ≡ right → Settles header_cause 5 xs more
  by_magic true e = by_length e (cases_lt (length xs) 5)
  by_magic false e =
      let here : header_cause xs ≡ Some BadMagic = ap (λ r. header_of r (short_of xs) (version_of xs)) e in
      let there : header_cause (xs ++ more) ≡ Some BadMagic = ap (λ r. header_of r (short_of (xs ++ more)) (version_of (xs ++ more))) (wrong_again xs more e) in
      settled (there ∙ sym here) (λ t. let other = sym here ∙ t in cc)

-- ---- a frame

abbrev fields_of : (right short : Bool) → Option Cause → Option Cause
fields_of right short fields = or_else (first_cause ((not right, BadLength) ∷ (short, Truncated) ∷ [])) fields

abbrev sized_of : (size m : ℕ) → (List ℕ → Option Cause) → List ℕ → Option Cause
sized_of size m cause_of bytes = fields_of (eqb (big_number 2 bytes) size) (ltb (length bytes) (2 + size)) (cause_of (take m (drop 3 bytes)))

-- a frame whose kind asks for this length
kind_settles : (size m : ℕ) (cause_of : List ℕ → Option Cause) (xs more : List ℕ) → 3 + m ≡ 2 + size → 2 ≤ length xs → ((fields : List ℕ) → cause_of fields ≢ Some Truncated)
    → Settles (sized_of size m cause_of) (2 + size) xs more
kind_settles size m cause_of xs more sizes some never = by_size (eqb (big_number 2 xs) size) refl where
  size_again : eqb (big_number 2 (xs ++ more)) size ≡ eqb (big_number 2 xs) size
  size_again = ap (λ (n : ℕ). eqb n size) (big_from-append 2 xs more some)

  by_length : eqb (big_number 2 xs) size ≡ true → (length xs < 2 + size) ⊎ (2 + size ≤ length xs) → Settles (sized_of size m cause_of) (2 + size) xs more
  by_length right (inl few) = missing (λ i. fields_of (right i) (lt-ltb (length xs) (2 + size) few i) (cause_of (take m (drop 3 xs)))) few
  by_length right (inr long) =
      let here : sized_of size m cause_of xs ≡ cause_of (take m (drop 3 xs)) = λ i. fields_of (right i) (le-ltb (length xs) (2 + size) long i) (cause_of (take m (drop 3 xs))) in
      let longer : 2 + size ≤ length (xs ++ more) = omega (arith, long, length-append xs more) in
      let same : take m (drop 3 (xs ++ more)) ≡ take m (drop 3 xs) =
      ap (λ (s : List ℕ). take m s) (drop-append-le 3 xs more (omega (arith, long, sizes))) ∙ take-append-le m (drop 3 xs) more (omega (arith, long, sizes, length-drop 3 xs)) in
      let there : sized_of size m cause_of (xs ++ more) ≡ cause_of (take m (drop 3 xs)) =
      λ i. fields_of ((size_again ∙ right) i) (le-ltb (length (xs ++ more)) (2 + size) longer i) (cause_of (same i)) in
      settled (there ∙ sym here) (λ e. never (take m (drop 3 xs)) (sym here ∙ e))

  by_size : (right : Bool) → eqb (big_number 2 xs) size ≡ right → Settles (sized_of size m cause_of) (2 + size) xs more
  by_size true e = by_length e (cases_lt (length xs) (2 + size))
  by_size false e =
      let here : sized_of size m cause_of xs ≡ Some BadLength = ap (λ r. fields_of r (ltb (length xs) (2 + size)) (cause_of (take m (drop 3 xs)))) e in
      let there : sized_of size m cause_of (xs ++ more) ≡ Some BadLength = ap (λ r. fields_of r (ltb (length (xs ++ more)) (2 + size)) (cause_of (take m (drop 3 (xs ++ more))))) (size_again ∙ e) in
      settled (there ∙ sym here) (λ t. let other = sym here ∙ t in cc)

insertion_whole : (zero late other : Bool) → first_cause ((zero, ZeroField) ∷ (late, ParentNotBefore) ∷ (other, NotAScalar) ∷ []) ≢ Some Truncated
insertion_whole true late other e = cc
insertion_whole false true other e = cc
insertion_whole false false true e = cc
insertion_whole false false false e = cc

erasure_whole : (zero : Bool) → first_cause ((zero, ZeroField) ∷ []) ≢ Some Truncated
erasure_whole true e = cc
erasure_whole false e = cc

never_insertion : (fields : List ℕ) → insertion_cause fields ≢ Some Truncated
never_insertion f = insertion_whole (has_zero (identifier_at f) || is_half_zero (identifier_at (drop 6 f))) (nat_le (identifier_at f).counter (identifier_at (drop 6 f)).counter) (not (scalar (big_number 4 (drop 12 f))))

never_erasure : (fields : List ℕ) → erasure_cause fields ≢ Some Truncated
never_erasure f = erasure_whole (has_zero (identifier_at f))

run_whole : (zero late over other : Bool) → or_else (first_cause ((zero, ZeroField) ∷ (late, ParentNotBefore) ∷ [])) (first_cause ((over, CounterOverflow) ∷ (other, NotAScalar) ∷ [])) ≢ Some Truncated
run_whole true late over other e = cc
run_whole false true over other e = cc
run_whole false false true other e = cc
run_whole false false false true e = cc
run_whole false false false false e = cc

never_run : (fields : List ℕ) → run_cause fields ≢ Some Truncated
never_run f = run_whole (has_zero (identifier_at f) || is_half_zero (identifier_at (drop 6 f))) (nat_le (identifier_at f).counter (identifier_at (drop 6 f)).counter)
    (ltb (2 ^ 32) ((identifier_at f).counter + length (characters_in (drop 12 f)))) (not (list_all scalar (characters_in (drop 12 f))))

-- a run, whose own length says how long it is
run_settles : (xs more : List ℕ) → 2 ≤ length xs → Settles run_frame_cause 4111 xs more
run_settles xs more some = by_length (cases_Bool (is_run_length (big_number 2 xs))) where
  by_size : (is_run_length (big_number 2 xs) ≡ true) → Settles (sized_of (big_number 2 xs) (big_number 2 xs - 1) run_cause) (2 + big_number 2 xs) xs more → Settles run_frame_cause 4111 xs more
  by_size right (missing e few) = missing (ap (λ (b : Bool). cond b (sized_of (big_number 2 xs) (big_number 2 xs - 1) run_cause xs) (Some BadLength)) right ∙ e) (let parts = run_parts (big_number 2 xs) right in omega (arith, few, parts.0, parts.2))
  by_size right (settled e never) =
      let again = big_from-append 2 xs more some in
      let here : run_frame_cause xs ≡ sized_of (big_number 2 xs) (big_number 2 xs - 1) run_cause xs = ap (λ (b : Bool). cond b (sized_of (big_number 2 xs) (big_number 2 xs - 1) run_cause xs) (Some BadLength)) right in
      let there : run_frame_cause (xs ++ more) ≡ sized_of (big_number 2 xs) (big_number 2 xs - 1) run_cause (xs ++ more) =
      (λ i. cond (is_run_length (again i)) (sized_of (again i) (again i - 1) run_cause (xs ++ more)) (Some BadLength))
      ∙ ap (λ (b : Bool). cond b (sized_of (big_number 2 xs) (big_number 2 xs - 1) run_cause (xs ++ more)) (Some BadLength)) right in
      settled (there ∙ e ∙ sym here) (λ t. never (sym here ∙ t))

  by_length : (is_run_length (big_number 2 xs) ≡ true) ⊎ (is_run_length (big_number 2 xs) ≡ false) → Settles run_frame_cause 4111 xs more
  by_length (inl right) =
      let parts = run_parts (big_number 2 xs) right in
      by_size right (kind_settles (big_number 2 xs) (big_number 2 xs - 1) run_cause xs more (omega (arith, parts.0, parts.1)) some never_run)
  by_length (inr wrong) =
      let again = big_from-append 2 xs more some in
      let here : run_frame_cause xs ≡ Some BadLength = ap (λ (b : Bool). cond b (sized_of (big_number 2 xs) (big_number 2 xs - 1) run_cause xs) (Some BadLength)) wrong in
      let there : run_frame_cause (xs ++ more) ≡ Some BadLength =
      (λ i. cond (is_run_length (again i)) (sized_of (again i) (again i - 1) run_cause (xs ++ more)) (Some BadLength))
      ∙ ap (λ (b : Bool). cond b (sized_of (big_number 2 xs) (big_number 2 xs - 1) run_cause (xs ++ more)) (Some BadLength)) wrong in
      settled (there ∙ sym here) (λ t. let other = sym here ∙ t in cc)

abbrev frame_of : (short one two three : Bool) → (insertion erasure run : Option Cause) → Option Cause
frame_of short one two three insertion erasure run = cond short (Some Truncated) (cond one insertion (cond two erasure (cond three run (Some UnknownKind))))

abbrev one_of : List ℕ → Bool
one_of bytes = eqb (slice_index bytes 2) 1

abbrev two_of : List ℕ → Bool
two_of bytes = eqb (slice_index bytes 2) 2

abbrev three_of : Version → List ℕ → Bool
three_of version bytes = eqb (slice_index bytes 2) 3 && ltb 1 (most_insertions version)

abbrev insertion_of : List ℕ → Option Cause
insertion_of bytes = or_else (length_cause 17 bytes) (insertion_cause (take 16 (drop 3 bytes)))

abbrev erasure_of : List ℕ → Option Cause
erasure_of bytes = or_else (length_cause 7 bytes) (erasure_cause (take 6 (drop 3 bytes)))

frame_settles : (version : Version) (xs more : List ℕ) → Settles (frame_cause version) 4111 xs more
frame_settles version xs more = by_length (cases_lt (length xs) 3) where
  -- of a kind whose cause is known
  by_cause : (cause_of : List ℕ → Option Cause) (most : ℕ) → most ≤ 4111 → frame_cause version xs ≡ cause_of xs → frame_cause version (xs ++ more) ≡ cause_of (xs ++ more) → Settles cause_of most xs more → Settles (frame_cause version) 4111 xs more
  by_cause cause_of most few here there (missing e lt) = missing (here ∙ e) (omega (arith, few, lt))
  by_cause cause_of most few here there (settled e never) = settled (there ∙ e ∙ sym here) (λ t. never (sym here ∙ t))

  by_kind : 3 ≤ length xs → (one two three : Bool) → one_of xs ≡ one → two_of xs ≡ two → three_of version xs ≡ three → Settles (frame_cause version) 4111 xs more
  by_kind long true two three e f g =
      let third : slice_index (xs ++ more) 2 ≡ slice_index xs 2 = get_or_append_left xs more 0 2 (omega (arith, long)) in
      let longer : 3 ≤ length (xs ++ more) = omega (arith, long, length-append xs more) in
      by_cause insertion_of 19 (omega arith)
      (λ i. frame_of (le-ltb (length xs) 3 long i) (e i) (two_of xs) (three_of version xs) (insertion_of xs) (erasure_of xs) (run_frame_cause xs))
      (λ i. frame_of (le-ltb (length (xs ++ more)) 3 longer i) ((ap (λ (n : ℕ). eqb n 1) third ∙ e) i) (two_of (xs ++ more)) (three_of version (xs ++ more)) (insertion_of (xs ++ more)) (erasure_of (xs ++ more)) (run_frame_cause (xs ++ more)))
      (kind_settles 17 16 insertion_cause xs more refl (omega (arith, long)) never_insertion)
  by_kind long false true three e f g =
      let third : slice_index (xs ++ more) 2 ≡ slice_index xs 2 = get_or_append_left xs more 0 2 (omega (arith, long)) in
      let longer : 3 ≤ length (xs ++ more) = omega (arith, long, length-append xs more) in
      by_cause erasure_of 9 (omega arith)
      (λ i. frame_of (le-ltb (length xs) 3 long i) (e i) (f i) (three_of version xs) (insertion_of xs) (erasure_of xs) (run_frame_cause xs))
      (λ i. frame_of (le-ltb (length (xs ++ more)) 3 longer i) ((ap (λ (n : ℕ). eqb n 1) third ∙ e) i) ((ap (λ (n : ℕ). eqb n 2) third ∙ f) i) (three_of version (xs ++ more)) (insertion_of (xs ++ more)) (erasure_of (xs ++ more)) (run_frame_cause (xs ++ more)))
      (kind_settles 7 6 erasure_cause xs more refl (omega (arith, long)) never_erasure)
  by_kind long false false true e f g =
      let third : slice_index (xs ++ more) 2 ≡ slice_index xs 2 = get_or_append_left xs more 0 2 (omega (arith, long)) in
      let longer : 3 ≤ length (xs ++ more) = omega (arith, long, length-append xs more) in
      by_cause run_frame_cause 4111 (omega arith)
      (λ i. frame_of (le-ltb (length xs) 3 long i) (e i) (f i) (g i) (insertion_of xs) (erasure_of xs) (run_frame_cause xs))
      (λ i. frame_of (le-ltb (length (xs ++ more)) 3 longer i) ((ap (λ (n : ℕ). eqb n 1) third ∙ e) i) ((ap (λ (n : ℕ). eqb n 2) third ∙ f) i) ((ap (λ (n : ℕ). eqb n 3 && ltb 1 (most_insertions version)) third ∙ g) i) (insertion_of (xs ++ more)) (erasure_of (xs ++ more)) (run_frame_cause (xs ++ more)))
      (run_settles xs more (omega (arith, long)))
  by_kind long false false false e f g =
      let third : slice_index (xs ++ more) 2 ≡ slice_index xs 2 = get_or_append_left xs more 0 2 (omega (arith, long)) in
      let longer : 3 ≤ length (xs ++ more) = omega (arith, long, length-append xs more) in
      let here : frame_cause version xs ≡ Some UnknownKind = λ i. frame_of (le-ltb (length xs) 3 long i) (e i) (f i) (g i) (insertion_of xs) (erasure_of xs) (run_frame_cause xs) in
      let there : frame_cause version (xs ++ more) ≡ Some UnknownKind =
      λ i. frame_of (le-ltb (length (xs ++ more)) 3 longer i) ((ap (λ (n : ℕ). eqb n 1) third ∙ e) i) ((ap (λ (n : ℕ). eqb n 2) third ∙ f) i) ((ap (λ (n : ℕ). eqb n 3 && ltb 1 (most_insertions version)) third ∙ g) i) (insertion_of (xs ++ more)) (erasure_of (xs ++ more)) (run_frame_cause (xs ++ more)) in
      settled (there ∙ sym here) (λ t. let other = sym here ∙ t in cc)

  by_length : (length xs < 3) ⊎ (3 ≤ length xs) → Settles (frame_cause version) 4111 xs more
  by_length (inl few) = missing (ap (λ s. frame_of s (one_of xs) (two_of xs) (three_of version xs) (insertion_of xs) (erasure_of xs) (run_frame_cause xs)) (lt-ltb (length xs) 3 few)) (omega (arith, few))
  by_length (inr long) = by_kind long (one_of xs) (two_of xs) (three_of version xs) refl refl refl

-- ---- what a whole frame joins

identifier_again : (b more : List ℕ) → 6 ≤ length b → identifier_at (b ++ more) ≡ identifier_at b
identifier_again b more long =
    let counter = big_from-append 4 b more (omega (arith, long)) in
    let site : big_number 2 (drop 4 (b ++ more)) ≡ big_number 2 (drop 4 b) =
    ap (big_number 2) (drop-append-le 4 b more (omega (arith, long))) ∙ big_from-append 2 (drop 4 b) more (omega (arith, long, length-drop 4 b)) in
    λ i. record { counter = counter i; site = site i }

later_identifier : (n : ℕ) (b more : List ℕ) → n + 6 ≤ length b → identifier_at (drop n (b ++ more)) ≡ identifier_at (drop n b)
later_identifier n b more long =
    ap identifier_at (drop-append-le n b more (omega (arith, long))) ∙ identifier_again (drop n b) more (omega (arith, long, length-drop n b))

-- a whole frame, except that of a deletion, has its two identifiers
whole_enough : (version : Version) (xs : List ℕ) → frame_cause version xs ≡ None → (3 ≤ length xs) × ((two_of xs ≡ true) ⊎ (15 ≤ length xs))
whole_enough version xs none = (three, by_one (cases_Bool (one_of xs))) where
  three : 3 ≤ length xs
  three = ltb-false _ _ (no_cause (ltb (length xs) 3) Truncated (frame_of false (one_of xs) (two_of xs) (three_of version xs) (insertion_of xs) (erasure_of xs) (run_frame_cause xs)) none).0

  of_size : (size : ℕ) (other : Option Cause) → 13 ≤ size → or_else (length_cause size xs) other ≡ None → 15 ≤ length xs
  of_size size other enough e = let both = neither (length_cause size xs) other e in let is = length_right size xs both.0 in omega (arith, enough, is.1)

  by_run : (b : Bool) → is_run_length (big_number 2 xs) ≡ b → cond b (or_else (length_cause (big_number 2 xs) xs) (run_cause (take (big_number 2 xs - 1) (drop 3 xs)))) (Some BadLength) ≡ None → 15 ≤ length xs
  by_run true right e' =
      let parts = run_parts (big_number 2 xs) right in
      let both = neither (length_cause (big_number 2 xs) xs) (run_cause (take (big_number 2 xs - 1) (drop 3 xs))) e' in
      let is = length_right (big_number 2 xs) xs both.0 in
      omega (arith, parts.0, parts.1, is.1)
  by_run false right e' = absurd cc

  by_kind : (one two three' : Bool) → two_of xs ≡ two → cond one (insertion_of xs) (cond two (erasure_of xs) (cond three' (run_frame_cause xs) (Some UnknownKind))) ≡ None → (two_of xs ≡ true) ⊎ (15 ≤ length xs)
  by_kind true two three' f e = inr (of_size 17 (insertion_cause (take 16 (drop 3 xs))) (omega arith) e)
  by_kind false true three' f e = inl f
  by_kind false false true f e = inr (by_run (is_run_length (big_number 2 xs)) refl e)
  by_kind false false false f e = absurd cc

  by_one : (one_of xs ≡ true) ⊎ (one_of xs ≡ false) → (two_of xs ≡ true) ⊎ (15 ≤ length xs)
  by_one h = by_kind (one_of xs) (two_of xs) (three_of version xs) refl (no_cause (ltb (length xs) 3) Truncated (frame_of false (one_of xs) (two_of xs) (three_of version xs) (insertion_of xs) (erasure_of xs) (run_frame_cause xs)) none).1

abbrev joined_of : (two joined : Bool) → Option Cause
joined_of two joined = first_cause ((not two && joined, NotJoined) ∷ [])

abbrev follows_of : Identifier → List ℕ → Bool
follows_of before bytes = follows before (identifier_at (drop 3 bytes)) (identifier_at (drop 9 bytes))

joined_again : (before : Option Identifier) (xs more : List ℕ) → 3 ≤ length xs → (two_of xs ≡ true) ⊎ (15 ≤ length xs) → joined_cause before (xs ++ more) ≡ joined_cause before xs
joined_again None xs more three enough = refl
joined_again (Some before) xs more three (inl two) =
    let third : slice_index (xs ++ more) 2 ≡ slice_index xs 2 = get_or_append_left xs more 0 2 (omega (arith, three)) in
    (λ i. joined_of ((ap (λ (n : ℕ). eqb n 2) third ∙ two) i) (follows_of before (xs ++ more))) ∙ (λ i. joined_of (sym two i) (follows_of before xs))
joined_again (Some before) xs more three (inr long) =
    let third : slice_index (xs ++ more) 2 ≡ slice_index xs 2 = get_or_append_left xs more 0 2 (omega (arith, three)) in
    λ i. joined_of (eqb (third i) 2) (follows before (later_identifier 3 xs more (omega (arith, long)) i) (later_identifier 9 xs more long i))

joined_whole : (b : Bool) → first_cause ((b, NotJoined) ∷ []) ≢ Some Truncated
joined_whole true e = cc
joined_whole false e = cc

never_joined : (before : Option Identifier) (bytes : List ℕ) → joined_cause before bytes ≢ Some Truncated
never_joined None bytes e = cc
never_joined (Some before) bytes e = joined_whole (not (two_of bytes) && follows_of before bytes) e

pub cause_settles : (version : Version) (before : Option Identifier) (xs more : List ℕ) → Settles (cause_at version before) 4111 xs more
cause_settles version before xs more = by_frame (frame_settles version xs more) where
  by_cause : frame_cause version (xs ++ more) ≡ frame_cause version xs → frame_cause version xs ≢ Some Truncated → ((cause : Cause) × (frame_cause version xs ≡ Some cause)) ⊎ (frame_cause version xs ≡ None) → Settles (cause_at version before) 4111 xs more
  by_cause same never (inl shown) =
      let here : cause_at version before xs ≡ Some shown.0 = ap (λ (o : Option Cause). or_else o (joined_cause before xs)) shown.1 in
      let there : cause_at version before (xs ++ more) ≡ Some shown.0 = ap (λ (o : Option Cause). or_else o (joined_cause before (xs ++ more))) (same ∙ shown.1) in
      settled (there ∙ sym here) (λ t. never (shown.1 ∙ sym here ∙ t))
  by_cause same never (inr none) =
      let whole = whole_enough version xs none in
      let here : cause_at version before xs ≡ joined_cause before xs = ap (λ (o : Option Cause). or_else o (joined_cause before xs)) none in
      let there : cause_at version before (xs ++ more) ≡ joined_cause before (xs ++ more) = ap (λ (o : Option Cause). or_else o (joined_cause before (xs ++ more))) (same ∙ none) in
      settled (there ∙ joined_again before xs more whole.0 whole.1 ∙ sym here) (λ t. never_joined before xs (sym here ∙ t))

  by_frame : Settles (frame_cause version) 4111 xs more → Settles (cause_at version before) 4111 xs more
  by_frame (missing e few) = missing (ap (λ (o : Option Cause). or_else o (joined_cause before xs)) e) few
  by_frame (settled e never) = by_cause e never (cause_or_none (frame_cause version xs))
