-- Steps over the characters of a text.
use Rattle.std.proofs.Common.{◌≡◌, ℕ, ◌+◌, ◌<◌, ◌≤◌, Bool, true, false, ◌||◌, List, [], ◌∷◌, ◌++◌, length, take, drop, get_or, encode_utf8, encode_utf8_all, refl, sym, ap, subst, ◌∙◌, arith, inl, inr, append_assoc, append-nil, length-append, take-append-drop, take_at, get_or-drop, length-drop, length-take-le}
use Rattle.std.proofs.lemmas.Bool.{and_parts}
use Rattle.std.proofs.lemmas.List.{get_or_append_left}
use Rattle.std.proofs.lemmas.List.Folds.{list_any-append}
use Rattle.std.proofs.lemmas.Str.{chars-nil, chars-append, chars_past_char, length-encode, len_utf8_bounds, IsCharBoundary-start, IsCharBoundary-past_char, IsUtf8-encode, IsUtf8-take, IsUtf8-drop}
use Rattle.std.specs.Char.{IsScalar, len_utf8}
use Rattle.std.specs.List.{list_any}
use Rattle.std.specs.Str.{IsUtf8, IsCharBoundary, chars, all_scalars}
use Rattle.std.proofs.Math.Utf8.{scalar_cases}
use Rattle.unicode_tables.specs.FirstBytes.{first_byte, AreSteps, StopAt}
use Rattle.unicode_tables.proofs.Bytes.{head-encode}

-- the character with which a text begins
record BeginsWith (bytes : List ℕ) : Type 0 where
  c : ℕ
  after : List ℕ
  is : bytes ≡ encode_utf8 c ++ after
  scalar : IsScalar c

begins : (bytes : List ℕ) (cs : List ℕ) → all_scalars cs ≡ true → encode_utf8_all cs ≡ bytes → 0 < length bytes → BeginsWith bytes
begins bytes [] scalars e some = let none = ap length e in absurd (omega arith)
begins bytes (c ∷ cs) scalars e some = record { c = c; after = encode_utf8_all cs; is = sym e; scalar = (and_parts _ (all_scalars cs) scalars).0 }

scalar-below : (c : ℕ) → IsScalar c → c < 0x110000
scalar-below c s = elim (scalar_cases c s) [ inl low ↦ omega arith | inr high ↦ let h = high.1 in omega arith ]

never : (b : Bool) → (b ≡ true → ⊥) → b ≡ false
never true h = absurd (h refl)
never false h = refl

chars-one : (c : ℕ) → IsScalar c → chars (encode_utf8 c) ≡ c ∷ []
chars-one c s = chars_past_char (encode_utf8 c) [] c (IsUtf8-encode c s) (sym (append-nil (encode_utf8 c))) ∙ ap (λ l. c ∷ l) chars-nil

-- so far the text is stepped over
pub record IsPassed (text steps : List ℕ) (end count : ℕ) : Type 0 where
  pub boundary : IsCharBoundary text end
  pub counted : count ≡ length (chars (take end text))
  pub few : count ≤ end
  pub none : (test : ℕ → Bool) → StopAt test 0x110000 steps → list_any test (chars (take end text)) ≡ false

pub passed-none : (text steps : List ℕ) → IsUtf8 text → IsPassed text steps 0 0
passed-none text steps u = record {
  boundary = IsCharBoundary-start text u;
  counted = sym (ap length chars-nil);
  few = omega arith;
  none = λ test stop. ap (list_any test) chars-nil;
}

module _ (text steps : List ℕ) (end count step : ℕ) (u : IsUtf8 text) (s : AreSteps steps) (p : IsPassed text steps end count) (lt : end < length text)
    (is : step ≡ get_or steps (get_or text end 0) 0) (some : 0 < step) where
  left : IsUtf8 (drop end text)
  left = IsUtf8-drop text end u p.boundary

  here : BeginsWith (drop end text)
  here = begins (drop end text) left.0 left.1.0 left.1.1 (let n = length-drop end text in omega arith)

  scalar : here.c < 0x110000
  scalar = scalar-below here.c here.scalar

  -- its first byte is the one that is read
  first : get_or text end 0 ≡ first_byte here.c
  first =
      let z : end + 0 ≡ end = omega arith in
      let long : 0 < length (encode_utf8 here.c) = (let n = length-encode here.c in let least = len_utf8_bounds here.c in omega (arith, n, least)) in
      sym (get_or-drop end text 0 0 ∙ ap (λ k. get_or text k 0) z)
      ∙ ap (λ t. get_or t 0 0) here.is ∙ get_or_append_left (encode_utf8 here.c) here.after 0 0 long ∙ head-encode here.c

  step-is : step ≡ get_or steps (first_byte here.c) 0
  step-is = is ∙ ap (λ b. get_or steps b 0) first

  len : step ≡ len_utf8 here.c
  len = let e = step-is in e ∙ s.over here.c scalar (omega arith)

  on : end + len_utf8 here.c ≡ end + step
  on = ap (λ k. end + k) (sym len)

  taken : take (end + step) text ≡ take end text ++ encode_utf8 here.c
  taken =
      let front : length (take end text) ≡ end = length-take-le end text (omega arith) in
      let all : length (take end text ++ encode_utf8 here.c) ≡ end + step = (let n = length-append (take end text) (encode_utf8 here.c) in let m = length-encode here.c in let l = len in omega arith) in
      ap (take (end + step)) (sym (take-append-drop end text) ∙ ap (λ t. take end text ++ t) here.is ∙ sym (append_assoc (take end text) (encode_utf8 here.c) here.after))
      ∙ take_at (take end text ++ encode_utf8 here.c) here.after (end + step) all

  points : chars (take (end + step) text) ≡ chars (take end text) ++ here.c ∷ []
  points =
      ap chars taken ∙ chars-append (take end text) (encode_utf8 here.c) (IsUtf8-take text end u p.boundary)
      ∙ ap (λ t. chars (take end text) ++ t) (chars-one here.c here.scalar)

  boundary-on : IsCharBoundary text (end + step)
  boundary-on = subst (IsCharBoundary text) on (IsCharBoundary-past_char text here.after end here.c (omega arith) left here.is)

  count-on : count + 1 ≡ length (chars (take (end + step) text))
  count-on =
      let so_far = p.counted in
      let n = length-append (chars (take end text)) (here.c ∷ []) in
      let m : length (chars (take (end + step) text)) ≡ length (chars (take end text) ++ here.c ∷ []) = ap length points in
      omega arith

  -- a character that passes the test would have no step
  fails : (test : ℕ → Bool) → StopAt test 0x110000 steps → test here.c ≡ false
  fails test stop = never (test here.c) (λ yes. let none = stop here.c scalar yes in let e = step-is in absurd (omega arith))

  none-on : (test : ℕ → Bool) → StopAt test 0x110000 steps → list_any test (chars (take (end + step) text)) ≡ false
  none-on test stop =
      ap (list_any test) points ∙ list_any-append test (chars (take end text)) (here.c ∷ [])
      ∙ ap (λ b. b || list_any test (here.c ∷ [])) (p.none test stop)
      ∙ ap (λ b. b || false) (fails test stop)

  pub passed-on : IsPassed text steps (end + step) (count + 1)
  passed-on = record { boundary = boundary-on; counted = count-on; few = (let h = p.few in omega arith); none = none-on }
