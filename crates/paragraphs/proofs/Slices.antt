-- The places of a text's code points among its bytes.
use Rattle.std.proofs.Common.{◌≡◌, ℕ, ◌+◌, ◌-◌, ◌≤◌, zero, suc, List, [], ◌∷◌, ◌++◌, length, take, drop, slice_range, refl, sym, ap, subst, ◌∙◌, arith}
use Rattle.std.proofs.lemmas.List.{append_assoc, length-append, length-take-le, take-append-drop, take_at, drop_at, drop-drop}
use Rattle.std.proofs.lemmas.List.Folds.{drop_split}
use Rattle.std.proofs.lemmas.Str.{chars_from_encodes, encodes-append, encodes-chars, IsCharBoundary-at_seam, IsCharBoundary-from_rest, IsUtf8-past_char}
use Rattle.std.specs.Prelude.{encode_utf8_all}
use Rattle.std.specs.Str.{IsUtf8, IsCharBoundary}
use Rattle.unicode_segmentation.proofs.TextLemmas.{IsUtf8-before, take_split}
use Rattle.paragraphs.specs.Text.{code_points}
use Rattle.paragraphs.specs.Paragraphs.{paragraph_between, StandsIn}

-- how many bytes the first n of these code points have
abbrev pub byte_of : List ℕ → ℕ → ℕ
byte_of points n = length (encode_utf8_all (take n points))

pub IsUtf8-encodes_drop : (n : ℕ) (points : List ℕ) → IsUtf8 (encode_utf8_all points) → IsUtf8 (encode_utf8_all (drop n points))
IsUtf8-encodes_drop zero points u = u
IsUtf8-encodes_drop (suc n) [] u = u
IsUtf8-encodes_drop (suc n) (c ∷ points) u = IsUtf8-encodes_drop n points (IsUtf8-past_char _ _ c u refl)

pub encodes-split : (n : ℕ) (points : List ℕ) → encode_utf8_all points ≡ encode_utf8_all (take n points) ++ encode_utf8_all (drop n points)
encodes-split n points = ap encode_utf8_all (sym (take-append-drop n points)) ∙ encodes-append (take n points) (drop n points)

pub encodes-slice : (points : List ℕ) (from to : ℕ) → from ≤ to
    → encode_utf8_all (drop from points) ≡ encode_utf8_all (slice_range points from to) ++ encode_utf8_all (drop to points)
encodes-slice points from to le = ap encode_utf8_all (drop_split points from to le) ∙ encodes-append (slice_range points from to) (drop to points)

pub byte_of-slice : (points : List ℕ) (from to : ℕ) → from ≤ to → byte_of points to ≡ byte_of points from + length (encode_utf8_all (slice_range points from to))
byte_of-slice points from to le =
    ap (λ t. length (encode_utf8_all t)) (take_split points from to le)
    ∙ ap length (encodes-append (take from points) (slice_range points from to))
    ∙ length-append (encode_utf8_all (take from points)) (encode_utf8_all (slice_range points from to))

-- what is left of a text from a byte on, and from n bytes further
module _ (text : List ℕ) (byte : ℕ) (rest : List ℕ) (n : ℕ) where
  pub IsCharBoundary-on : byte ≤ length text → rest ≡ drop byte text → IsCharBoundary rest n → IsCharBoundary text (byte + n)
  IsCharBoundary-on within left at = IsCharBoundary-from_rest text byte n within (subst (λ t. IsCharBoundary t n) left at)

  pub drop-on : rest ≡ drop byte text → drop (byte + n) text ≡ drop n rest
  drop-on left = sym (drop-drop n byte text) ∙ ap (drop n) (sym left)

-- a text's end
pub record IsBehind (text rest : List ℕ) : Type 0 where
  pub within : length rest ≤ length text
  pub left : drop (length text - length rest) text ≡ rest
  pub boundary : IsCharBoundary text (length text - length rest)

-- what is left behind a piece of what is left of a text from a byte on
pub IsBehind-on : (text : List ℕ) (byte : ℕ) (left piece rest : List ℕ) → left ≡ drop byte text → left ≡ piece ++ rest → IsUtf8 rest → IsBehind text rest
IsBehind-on text byte left piece rest from joined u =
    let front = take byte text ++ piece in
    let split : text ≡ front ++ rest =
    sym (take-append-drop byte text) ∙ ap (λ t. take byte text ++ t) (sym from ∙ joined) ∙ sym (append_assoc (take byte text) piece rest) in
    let size = ap length split in
    let both = length-append front rest in
    let end : length front ≡ length text - length rest = omega arith in
    record {
      within = omega arith;
      left = ap (λ n. drop n text) (sym end) ∙ ap (drop (length front)) split ∙ drop_at front rest (length front) refl;
      boundary = subst (IsCharBoundary text) end (IsCharBoundary-at_seam text front rest split u);
    }

module _ (text : List ℕ) (u : IsUtf8 text) where
  pub text-split : (n : ℕ) → text ≡ encode_utf8_all (take n (code_points text)) ++ encode_utf8_all (drop n (code_points text))
  text-split n = sym (encodes-chars text u) ∙ encodes-split n (code_points text)

  pub IsUtf8-rest : (n : ℕ) → IsUtf8 (encode_utf8_all (drop n (code_points text)))
  IsUtf8-rest n = IsUtf8-encodes_drop n (code_points text) (subst IsUtf8 (sym (encodes-chars text u)) u)

  -- a text may be cut at each of its places
  pub IsCharBoundary-byte_of : (n : ℕ) → IsCharBoundary text (byte_of (code_points text) n)
  IsCharBoundary-byte_of n = IsCharBoundary-at_seam text _ _ (text-split n) (IsUtf8-rest n)

  pub length-byte_of : (n : ℕ) → length text ≡ byte_of (code_points text) n + length (encode_utf8_all (drop n (code_points text)))
  length-byte_of n = ap length (text-split n) ∙ length-append (encode_utf8_all (take n (code_points text))) (encode_utf8_all (drop n (code_points text)))

  -- the bytes between two places are those of the code points between them
  pub slice_range-byte_of : (from to : ℕ) → from ≤ to
      → slice_range text (byte_of (code_points text) from) (byte_of (code_points text) to) ≡ encode_utf8_all (slice_range (code_points text) from to)
  slice_range-byte_of from to le =
      let points = code_points text in
      let wide = byte_of-slice points from to le in
      let width : length (encode_utf8_all (slice_range points from to)) ≡ byte_of points to - byte_of points from = omega arith in
      ap (λ t. take (byte_of points to - byte_of points from) t)
      (ap (λ t. drop (byte_of points from) t) (text-split from) ∙ drop_at (encode_utf8_all (take from points)) _ (byte_of points from) refl
      ∙ encodes-slice points from to le)
      ∙ take_at (encode_utf8_all (slice_range points from to)) _ _ width

  -- as many code points stand before a place
  pub length-code_points_before : (n : ℕ) → n ≤ length (code_points text) → length (code_points (take (byte_of (code_points text) n) text)) ≡ n
  length-code_points_before n le =
      let points = code_points text in
      let front = take_at (encode_utf8_all (take n points)) (encode_utf8_all (drop n points)) (byte_of points n) refl in
      let before = ap (λ t. take (byte_of points n) t) (text-split n) ∙ front in
      let read = chars_from_encodes (take n points) _ (IsUtf8-before text _ _ u (IsUtf8-rest n) (text-split n)) refl in
      ap (λ t. length (code_points t)) before ∙ ap length (sym read) ∙ length-take-le n points le

  pub StandsIn-between : (from to : ℕ) → from ≤ to → to ≤ length (code_points text) → StandsIn text (paragraph_between (code_points text) from to)
  StandsIn-between from to le within =
      let points = code_points text in
      let wide = byte_of-slice points from to le in
      record {
        start = IsCharBoundary-byte_of from;
        end = subst (IsCharBoundary text) wide (IsCharBoundary-byte_of to);
        bytes = sym (ap (λ n. slice_range text (byte_of points from) n) (sym wide) ∙ slice_range-byte_of from to le);
        place = let inside : from ≤ length points = omega arith in sym (length-code_points_before from inside);
      }
