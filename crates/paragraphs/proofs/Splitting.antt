-- A text that is split up to a place.
use Rattle.std.proofs.Common.{◌≡◌, ℕ, ◌+◌, ◌-◌, ◌<◌, ◌≤◌, ◌==◌, ◌&&◌, true, false, not, List, [], ◌∷◌, ◌++◌, length, take, drop, slice_range, refl, sym, ap, ap₂, subst, ◌∙◌, arith, append-nil, length-append}
use Rattle.std.proofs.lemmas.Bool.{or_parts}
use Rattle.std.proofs.lemmas.List.{append_assoc, drop_at, take_rest, nil_from_length}
use Rattle.std.proofs.lemmas.List.Elements.{All-same}
use Rattle.std.proofs.lemmas.Str.{chars-nil, chars_past_char, encodes-chars, length-encode, length-le-encodes, len_utf8_bounds, IsUtf8-past_char}
use Rattle.std.specs.List.{All, list_any}
use Rattle.std.specs.Prelude.{encode_utf8, encode_utf8_all}
use Rattle.std.specs.Str.{IsUtf8, IsCharBoundary}
use Rattle.bg_types.specs.declared.class.Bidi.{Bidi}
use Rattle.unicode_tables.specs.Tables.{TableValues, bidi_of}
use Rattle.paragraphs.specs.Classes.{is_separator}
use Rattle.paragraphs.specs.Text.{code_points}
use Rattle.paragraphs.specs.Paragraphs.{Paragraph, begins_with_line_feed, ends_paragraph, paragraph_between, pieces, paragraphs, StandsIn}
use Rattle.paragraphs.specs.Separators.{HasNoSeparator, IsBehind}
use Rattle.paragraphs.proofs.Cutting.{cuts_from, cuts-is, drop-step, step-le}
use Rattle.paragraphs.proofs.Slices.{byte_of, byte_of-slice, text-split, length-byte_of, slice_range-byte_of, IsCharBoundary-byte_of}
use Rattle.paragraphs.proofs.Pieces.{joined, pieces-cut, pieces-no_cut, joined-pieces, pieces-stand}

-- `done` are the text's paragraphs up to `first_place`, and none ends from there to `place`, where `rest` begins
pub record IsSplitTo (tables : TableValues) (text rest : List ℕ) (done : List Paragraph) (first_byte first_place place : ℕ) : Type 0 where
  pub utf8 : IsUtf8 rest
  pub rest_is : code_points rest ≡ drop place (code_points text)
  pub within : place ≤ length (code_points text)
  pub begun : first_place ≤ place
  pub byte : first_byte ≡ byte_of (code_points text) first_place
  pub so_far : done ++ pieces (code_points text) first_place (cuts_from (bidi_of tables) place (code_points rest)) ≡ paragraphs tables text

-- the paragraphs by the cuts from the front
paragraphs-is : (tables : TableValues) (text : List ℕ) → paragraphs tables text ≡ pieces (code_points text) 0 (cuts_from (bidi_of tables) 0 (code_points text))
paragraphs-is tables text = ap (pieces (code_points text) 0) (cuts-is (bidi_of tables) (code_points text))

pub IsSplitTo-start : (tables : TableValues) (text : List ℕ) → IsUtf8 text → IsSplitTo tables text text [] 0 0 0
IsSplitTo-start tables text u = record { utf8 = u; rest_is = refl; within = omega arith; begun = omega arith; byte = refl; so_far = sym (paragraphs-is tables text) }

pub length-code_points : (text : List ℕ) → IsUtf8 text → length (code_points text) ≤ length text
length-code_points text u = let e = ap length (encodes-chars text u) in omega (arith, length-le-encodes (code_points text))

module _ (tables : TableValues) (text rest : List ℕ) (done : List Paragraph) (first_byte first_place place : ℕ) (u : IsUtf8 text)
    (s : IsSplitTo tables text rest done first_byte first_place place) where
  -- the paragraph that is open may begin where it does
  pub first_boundary : IsCharBoundary text first_byte
  first_boundary = subst (IsCharBoundary text) (sym s.byte) (IsCharBoundary-byte_of text u first_place)

  from_first : List ℕ → Paragraph
  from_first bytes = record { text = bytes; first_byte = first_byte; first_place = first_place }

  -- its value, where its bytes are those up to a place
  between : (bytes : List ℕ) (to : ℕ) → bytes ≡ encode_utf8_all (slice_range (code_points text) first_place to)
      → from_first bytes ≡ paragraph_between (code_points text) first_place to
  unfolding from_first
  between bytes to e = ap₂ (λ b n. let p : Paragraph = record { text = b; first_byte = n; first_place = first_place } in p) e s.byte

  last_bytes : drop first_byte text ≡ encode_utf8_all (slice_range (code_points text) first_place (length (code_points text)))
  last_bytes =
      ap (λ b. drop b text) s.byte ∙ ap (λ t. drop (byte_of (code_points text) first_place) t) (text-split text u first_place)
      ∙ drop_at (encode_utf8_all (take first_place (code_points text))) _ (byte_of (code_points text) first_place) refl
      ∙ ap encode_utf8_all (sym (take_rest (code_points text) first_place))

  -- the last paragraph put after the others
  pub paragraphs-end : (bytes : List ℕ) (items : List Paragraph) → length rest ≡ 0 → bytes ≡ drop first_byte text
      → items ≡ done ++ record { text = bytes; first_byte = first_byte; first_place = first_place } ∷ [] → items ≡ paragraphs tables text
  unfolding from_first
  paragraphs-end bytes items none read put =
      let empty = ap code_points (nil_from_length rest none) ∙ chars-nil in
      put ∙ ap (λ p. done ++ p ∷ []) (between bytes (length (code_points text)) (read ∙ last_bytes))
      ∙ ap (λ cs. done ++ pieces (code_points text) first_place (cuts_from (bidi_of tables) place cs)) (sym empty) ∙ s.so_far

  -- a step over the character c
  module _ (c : ℕ) (after : List ℕ) (e : rest ≡ encode_utf8 c ++ after) where
    head : code_points rest ≡ c ∷ code_points after
    head = chars_past_char rest after c s.utf8 e

    here : drop place (code_points text) ≡ c ∷ code_points after
    here = sym s.rest_is ∙ head

    step-within : place + 1 ≤ length (code_points text)
    step-within = step-le (code_points text) (code_points after) place c here

    pub next_place : place + 1 ≤ length text
    next_place = let w = step-within in let n = length-code_points text u in omega arith

    after_utf8 : IsUtf8 after
    after_utf8 = IsUtf8-past_char rest after c s.utf8 e

    after_is : code_points after ≡ drop (place + 1) (code_points text)
    after_is = sym (drop-step (code_points text) (code_points after) place c here)

    -- what follows tells where the text may be cut
    byte_of-after : length text ≡ byte_of (code_points text) (place + 1) + length after
    byte_of-after =
        length-byte_of text u (place + 1)
        ∙ ap (λ t. byte_of (code_points text) (place + 1) + length t) (ap encode_utf8_all (sym after_is) ∙ encodes-chars after after_utf8)

    pub after_fits : length after ≤ length text
    after_fits = let n = byte_of-after in omega arith

    end_is : length text - length after ≡ byte_of (code_points text) (place + 1)
    end_is = let n = byte_of-after in omega arith

    pub end_boundary : IsCharBoundary text (length text - length after)
    end_boundary = subst (IsCharBoundary text) (sym end_is) (IsCharBoundary-byte_of text u (place + 1))

    pub first-le-end : first_byte ≤ length text - length after
    first-le-end =
        let b = s.byte in
        let le : first_place ≤ place + 1 = let n = s.begun in omega arith in
        let n = byte_of-slice (code_points text) first_place (place + 1) le in
        let i = end_is in
        omega arith

    pub IsSplitTo-on : false ≡ ends_paragraph (bidi_of tables) c (code_points after) → IsSplitTo tables text after done first_byte first_place (place + 1)
    IsSplitTo-on stays = record {
      utf8 = after_utf8;
      rest_is = after_is;
      within = step-within;
      begun = let b = s.begun in omega arith;
      byte = s.byte;
      so_far =
          ap (λ t. done ++ t) (sym (pieces-no_cut (bidi_of tables) (code_points text) first_place place c (code_points after) (sym stays)))
          ∙ ap (λ cs. done ++ pieces (code_points text) first_place (cuts_from (bidi_of tables) place cs)) (sym head) ∙ s.so_far;
    }

    -- the paragraph that ends here put after the others
    pub IsSplitTo-cut : (bytes : List ℕ) (items : List Paragraph) → true ≡ ends_paragraph (bidi_of tables) c (code_points after)
        → bytes ≡ slice_range text first_byte (length text - length after)
        → items ≡ done ++ record { text = bytes; first_byte = first_byte; first_place = first_place } ∷ []
        → IsSplitTo tables text after items (length text - length after) (place + 1) (place + 1)
    unfolding from_first
    IsSplitTo-cut bytes items ends read put =
        let le : first_place ≤ place + 1 = let n = s.begun in omega arith in
        let same =
        read ∙ ap₂ (λ a b. slice_range text a b) s.byte end_is ∙ slice_range-byte_of text u first_place (place + 1) le in
        record {
          utf8 = after_utf8;
          rest_is = after_is;
          within = step-within;
          begun = omega arith;
          byte = end_is;
          so_far =
              ap (λ ps. ps ++ pieces (code_points text) (place + 1) (cuts_from (bidi_of tables) (place + 1) (code_points after)))
              (put ∙ ap (λ p. done ++ p ∷ []) (between bytes (place + 1) same))
              ∙ append_assoc done (paragraph_between (code_points text) first_place (place + 1) ∷ []) _
              ∙ ap (λ t. done ++ t) (sym (pieces-cut (bidi_of tables) (code_points text) first_place place c (code_points after) (sym ends)))
              ∙ ap (λ cs. done ++ pieces (code_points text) first_place (cuts_from (bidi_of tables) place cs)) (sym head) ∙ s.so_far;
        }

-- code points are passed of which none separates
IsSplitTo-past : (tables : TableValues) (text rest : List ℕ) (done : List Paragraph) (first_byte first_place place : ℕ) → IsUtf8 text → IsSplitTo tables text rest done first_byte first_place place
    → (cs after : List ℕ) → rest ≡ encode_utf8_all cs ++ after → list_any (λ c. is_separator (bidi_of tables c)) cs ≡ false
    → IsSplitTo tables text after done first_byte first_place (place + length cs)
IsSplitTo-past tables text rest done first_byte first_place place u s [] after e none =
    let z : place ≡ place + 0 = omega arith in
    subst (λ n. IsSplitTo tables text after done first_byte first_place n) z (subst (λ r. IsSplitTo tables text r done first_byte first_place place) e s)
IsSplitTo-past tables text rest done first_byte first_place place u s (c ∷ cs) after e none =
    let class = bidi_of tables in
    let later = encode_utf8_all cs ++ after in
    let parts = or_parts (is_separator (class c)) (list_any (λ k. is_separator (class k)) cs) none in
    let stays : ends_paragraph class c (code_points later) ≡ false = ap (λ b. b && not (c == 0xD && begins_with_line_feed class (code_points later))) parts.0 in
    let next = IsSplitTo-on tables text rest done first_byte first_place place u s c later (e ∙ append_assoc (encode_utf8 c) (encode_utf8_all cs) after) (sym stays) in
    let on : place + 1 + length cs ≡ place + length (c ∷ cs) = omega arith in
    subst (λ n. IsSplitTo tables text after done first_byte first_place n) on (IsSplitTo-past tables text later done first_byte first_place (place + 1) u next cs after refl parts.1)

module _ (tables : TableValues) (text rest : List ℕ) (done : List Paragraph) (first_byte first_place place : ℕ) (u : IsUtf8 text)
    (s : IsSplitTo tables text rest done first_byte first_place place) where
  -- those in front of a code point
  pub IsSplitTo-before : (before c : ℕ) (after : List ℕ) → IsBehind (bidi_of tables) rest before c after
      → IsSplitTo tables text (encode_utf8 c ++ after) done first_byte first_place (place + before)
  IsSplitTo-before before c after b =
      subst (λ n. IsSplitTo tables text (encode_utf8 c ++ after) done first_byte first_place (place + n)) (sym b.count)
      (IsSplitTo-past tables text rest done first_byte first_place place u s (code_points b.front) (encode_utf8 c ++ after)
      (b.whole ∙ ap (λ t. t ++ (encode_utf8 c ++ after)) (sym (encodes-chars b.front b.utf8))) b.none)

  -- all that are left
  pub IsSplitTo-end : HasNoSeparator (bidi_of tables) rest → IsSplitTo tables text [] done first_byte first_place (place + length (code_points rest))
  IsSplitTo-end none =
      IsSplitTo-past tables text rest done first_byte first_place place u s (code_points rest) [] (sym (append-nil (encode_utf8_all (code_points rest)) ∙ encodes-chars rest s.utf8)) none

-- what stands behind a code point is shorter
pub shorter : (class : ℕ → Bidi) (text : List ℕ) (before c : ℕ) (rest : List ℕ) → IsBehind class text before c rest → length rest < length text
shorter class text before c rest b =
    let whole = ap length b.whole in
    let all = length-append b.front (encode_utf8 c ++ rest) in
    let last = length-append (encode_utf8 c) rest in
    let own = length-encode c in
    let least = len_utf8_bounds c in
    omega (arith, whole, all, last, own, least)

-- what all paragraphs are
pub joined-paragraphs : (tables : TableValues) (text : List ℕ) → IsUtf8 text → joined (paragraphs tables text) ≡ text
joined-paragraphs tables text u =
    ap joined (paragraphs-is tables text) ∙ joined-pieces (bidi_of tables) (code_points text) 0 0 (code_points text) refl (omega arith) ∙ encodes-chars text u

pub paragraphs-stand : (tables : TableValues) (text : List ℕ) → IsUtf8 text → All (StandsIn text) (paragraphs tables text)
paragraphs-stand tables text u =
    All-same (StandsIn text) _ _ (paragraphs-is tables text) (pieces-stand (bidi_of tables) text u 0 0 (code_points text) refl (omega arith) (omega arith))
