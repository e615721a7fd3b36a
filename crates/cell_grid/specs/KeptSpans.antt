-- Spans in 11 bytes, and how many more follow: what a row has of them.
use Rattle.std.specs.Prelude.{ℕ, ◌+◌, ◌*◌, ◌/◌, ◌%◌, ◌^◌, ◌<◌, ◌≤◌}
use Rattle.paragraphs.specs.declared.span.Span.{Span}
use Rattle.cell_grid.specs.declared.kept_span.KeptSpan.{KeptSpan}

-- a number of 22 bits, of which the low 16 are a number of their own, and the high 6 stand in a byte above 2 others
abbrev pub number_of : (low high : ℕ) → ℕ
number_of low high = high / 4 * 65_536 + low

-- the byte that has the high bits of a number, and 2 others
abbrev pub high_of : (number share : ℕ) → ℕ
high_of number share = number / 65_536 * 4 + share

-- the code points of a span: their high bits are the 2 that stand below those of each other number
abbrev pub points_of : KeptSpan → ℕ
points_of s = (s.byte_high % 4 + s.place_high % 4 * 4 + s.bytes_high % 4 * 16) * 65_536 + s.points

-- the span that is stored so
unfoldable pub span_kept : KeptSpan → Span
span_kept s = record {
  first_byte = number_of s.byte s.byte_high;
  end_byte = number_of s.byte s.byte_high + number_of s.bytes s.bytes_high;
  first_place = number_of s.place s.place_high;
  end_place = number_of s.place s.place_high + points_of s;
}

-- a span that can be stored so
pub record IsShort (s : Span) : Type 0 where
  pub bytes : s.first_byte ≤ s.end_byte
  pub places : s.first_place ≤ s.end_place
  pub end_byte : s.end_byte < 2 ^ 22
  pub end_place : s.end_place < 2 ^ 22

-- what is stored of a span that stands this many bytes and places later
abbrev pub kept_later : (bytes places : ℕ) → KeptSpan → KeptSpan
kept_later bytes places s =
    let byte = number_of s.byte s.byte_high + bytes in
    let place = number_of s.place s.place_high + places in
    record s {
      byte = byte % 65_536;
      byte_high = high_of byte (s.byte_high % 4);
      place = place % 65_536;
      place_high = high_of place (s.place_high % 4);
    }

-- what is stored of an empty span at the start
abbrev pub no_span : KeptSpan
no_span = record { byte = 0; place = 0; bytes = 0; points = 0; byte_high = 0; place_high = 0; bytes_high = 0; further = 0 }
