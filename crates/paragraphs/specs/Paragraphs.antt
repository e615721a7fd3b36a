-- UAX #9, P1: the cuts of a text, and its paragraphs between them.
use Rattle.std.specs.Prelude.{◌≡◌, ℕ, Bool, true, false, ◌+◌, ◌-◌, ◌==◌, ◌&&◌, not, List, [], ◌∷◌, filter, map, length, take, drop, slice_index, slice_range, encode_utf8_all}
use Rattle.std.specs.List.{range_with_len}
use Rattle.std.specs.Str.{IsCharBoundary}
use Rattle.bg_types.specs.declared.class.Bidi.{Bidi}
use Rattle.unicode_tables.specs.Tables.{TableValues, bidi_of}
use Rattle.paragraphs.specs.Text.{code_points}
use Rattle.paragraphs.specs.Classes.{is_separator}

-- a paragraph: its bytes, and how many bytes and how many code points of the text stand before it
pub record Paragraph : Type 0 where
  pub text : List ℕ
  pub first_byte : ℕ
  pub first_place : ℕ

-- these code points begin with a U+000A of class B
abbrev pub begins_with_line_feed : (ℕ → Bidi) → List ℕ → Bool
begins_with_line_feed class [] = false
begins_with_line_feed class (c ∷ rest) = c == 0xA && is_separator (class c)

-- c, directly before `rest`, has class B and isn't a U+000D before a U+000A of class B
abbrev pub ends_paragraph : (ℕ → Bidi) → ℕ → List ℕ → Bool
ends_paragraph class c rest = is_separator (class c) && not (c == 0xD && begins_with_line_feed class rest)

-- place n stands directly after a code point that ends a paragraph
abbrev pub is_cut : (ℕ → Bidi) → List ℕ → ℕ → Bool
is_cut class points n = ends_paragraph class (slice_index points (n - 1)) (drop n points)

-- these code points are none, or the last of them ends a paragraph, directly before `rest`
abbrev pub meets_at_cut : (ℕ → Bidi) → (points rest : List ℕ) → Bool
meets_at_cut class [] rest = true
meets_at_cut class (c ∷ []) rest = ends_paragraph class c rest
meets_at_cut class (c ∷ d ∷ points) rest = meets_at_cut class (d ∷ points) rest

-- the cuts of a text, among its places from 1 to its end
abbrev pub cuts : (ℕ → Bidi) → List ℕ → List ℕ
cuts class points = filter (is_cut class points) (range_with_len 1 (length points))

-- what stands between two places of a text with these code points
abbrev pub paragraph_between : List ℕ → ℕ → ℕ → Paragraph
paragraph_between points from to = record {
  text = encode_utf8_all (slice_range points from to);
  first_byte = length (encode_utf8_all (take from points));
  first_place = from;
}

-- the pieces between cuts, the first of them from this place on, and the last, which may be empty, to the end
abbrev pub pieces : List ℕ → ℕ → List ℕ → List Paragraph
pieces points from [] = paragraph_between points from (length points) ∷ []
pieces points from (cut ∷ later) = paragraph_between points from cut ∷ pieces points cut later

-- Paragraphs
abbrev pub paragraphs : TableValues → List ℕ → List Paragraph
paragraphs tables text = pieces (code_points text) 0 (cuts (bidi_of tables) (code_points text))

-- the code points of each paragraph of the text with these code points
abbrev pub paragraph_points : TableValues → List ℕ → List (List ℕ)
paragraph_points tables points = map (λ p. code_points p.text) (paragraphs tables (encode_utf8_all points))

-- the paragraph is a slice of the text between characters, and stands where it says
pub record StandsIn (text : List ℕ) (p : Paragraph) : Type 0 where
  pub start : IsCharBoundary text p.first_byte
  pub end : IsCharBoundary text (p.first_byte + length p.text)
  pub bytes : p.text ≡ slice_range text p.first_byte (p.first_byte + length p.text)
  pub place : p.first_place ≡ length (code_points (take p.first_byte text))

-- the first of these paragraphs stands after this many bytes and code points, each other one where the one before it ends
abbrev pub ParagraphsFollow : (byte place : ℕ) → List Paragraph → Type 0
ParagraphsFollow byte place [] = Unit {0}
ParagraphsFollow byte place (p ∷ later) =
    (p.first_byte ≡ byte) × (p.first_place ≡ place) × ParagraphsFollow (byte + length p.text) (place + length (code_points p.text)) later
