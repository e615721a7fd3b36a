-- Each paragraph begins where the one before it ends.
use Rattle.std.proofs.Common.{◌≡◌, ℕ, zero, suc, ◌+◌, ◌-◌, ◌<◌, ◌≤◌, Bool, true, false, cond, List, [], ◌∷◌, filter, length, drop, slice_range, encode_utf8_all, refl, sym, ap, subst, arith}
use Rattle.std.proofs.lemmas.List.{length-drop, length-take-le}
use Rattle.std.proofs.lemmas.Str.{chars_from_encodes, IsUtf8-between}
use Rattle.std.specs.List.{range_with_len}
use Rattle.std.specs.Str.{IsUtf8}
use Rattle.unicode_tables.specs.Tables.{TableValues, bidi_of}
use Rattle.paragraphs.specs.Text.{code_points}
use Rattle.paragraphs.specs.Paragraphs.{Paragraph, is_cut, cuts, pieces, paragraphs, ParagraphsFollow}
use Rattle.paragraphs.proofs.Slices.{byte_of, byte_of-slice, StandsIn-between}

same_follow : (b c q r : ℕ) (ps : List Paragraph) → b ≡ c → q ≡ r → ParagraphsFollow b q ps → ParagraphsFollow c r ps
same_follow b c q r ps e f h = subst (λ n. ParagraphsFollow c n ps) f (subst (λ n. ParagraphsFollow n q ps) e h)

module _ (text : List ℕ) (u : IsUtf8 text) where
  -- a slice of the code points is as long as its bytes say
  between-points : (from to : ℕ) → from ≤ to → to ≤ length (code_points text) → from + length (code_points (encode_utf8_all (slice_range (code_points text) from to))) ≡ to
  between-points from to le within =
      let points = code_points text in
      let bytes = encode_utf8_all (slice_range points from to) in
      let h = StandsIn-between text u from to le within in
      let utf8 = subst IsUtf8 (sym h.bytes) (IsUtf8-between text (byte_of points from) (byte_of points from + length bytes) u (omega arith) h.start h.end) in
      let read = ap length (chars_from_encodes (slice_range points from to) bytes utf8 refl) in
      let behind = length-drop from points in
      let n = length-take-le (to - from) (drop from points) (omega arith) in
      omega arith

  cuts-follow : (passes : ℕ → Bool) (n a from : ℕ) → from < a → a + n ≡ length (code_points text) + 1
      → ParagraphsFollow (byte_of (code_points text) from) from (pieces (code_points text) from (filter passes (range_with_len a n)))
  cuts-follow passes zero a from lt all = (refl, refl, tt)
  cuts-follow passes (suc n) a from lt all =
      let points = code_points text in
      let rest = filter passes (range_with_len (a + 1) n) in
      let le : from ≤ a = omega arith in
      elim (passes a) as (λ b. ParagraphsFollow (byte_of points from) from (pieces points from (cond b (a ∷ rest) rest))) [
        | true ↦ (
          refl,
          refl,
          same_follow (byte_of points a) (byte_of points from + length (encode_utf8_all (slice_range points from a)))
              a (from + length (code_points (encode_utf8_all (slice_range points from a)))) (pieces points a rest)
              (byte_of-slice points from a le) (sym (between-points from a le (omega arith)))
              (cuts-follow passes n (a + 1) a (omega arith) (omega arith)),
        )
        | false ↦ cuts-follow passes n (a + 1) from (omega arith) (omega arith)
      ]

  pub follow-paragraphs : (tables : TableValues) → ParagraphsFollow 0 0 (paragraphs tables text)
  follow-paragraphs tables = cuts-follow (is_cut (bidi_of tables) (code_points text)) (length (code_points text)) 1 0 (omega arith) (omega arith)

some-pieces : (points : List ℕ) (from : ℕ) (cuts : List ℕ) → 0 < length (pieces points from cuts)
some-pieces points from [] = omega arith
some-pieces points from (cut ∷ later) = omega arith

pub some-paragraphs : (tables : TableValues) (text : List ℕ) → 0 < length (paragraphs tables text)
some-paragraphs tables text = some-pieces (code_points text) 0 (cuts (bidi_of tables) (code_points text))
