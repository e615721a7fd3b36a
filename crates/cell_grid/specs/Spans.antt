-- The extent of clusters that follow one another, and spans moved later in the text.
use Rattle.std.specs.Prelude.{ℕ, ◌+◌, List, [], ◌∷◌, fold}
use Rattle.paragraphs.specs.declared.span.Span.{Span}
pub use Rattle.paragraphs.specs.Spans.{span_at, spans_from, spans}

-- a stretch up to where this one ends
abbrev pub up_to : Span → Span → Span
up_to whole s = record whole { end_byte = s.end_byte; end_place = s.end_place }

-- the extent of clusters that follow one another; the paragraph's start if there are none
abbrev pub extent : List Span → Span
extent [] = record { first_byte = 0; end_byte = 0; first_place = 0; end_place = 0 }
extent (s ∷ later) = fold up_to s later

-- the span this many bytes and places later
abbrev pub shifted_span : (bytes places : ℕ) → Span → Span
shifted_span bytes places s = record {
  first_byte = s.first_byte + bytes;
  end_byte = s.end_byte + bytes;
  first_place = s.first_place + places;
  end_place = s.end_place + places;
}
