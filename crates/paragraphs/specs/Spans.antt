-- Where clusters stand in a text: in bytes, and in places, which count code points.
use Rattle.std.specs.Prelude.{ℕ, ◌+◌, List, [], ◌∷◌, length}
use Rattle.paragraphs.specs.declared.span.Span.{Span}
use Rattle.paragraphs.specs.Text.{code_points}
use Rattle.paragraphs.specs.Clusters.{clusters}

-- where a cluster stands that has this many bytes and code points before it
abbrev pub span_at : (byte place : ℕ) → List ℕ → Span
span_at byte place cluster = record {
  first_byte = byte;
  end_byte = byte + length cluster;
  first_place = place;
  end_place = place + length (code_points cluster);
}

-- where clusters stand that follow one another, the first of them after this many bytes and code points
abbrev pub spans_from : (byte place : ℕ) → List (List ℕ) → List Span
spans_from byte place [] = []
spans_from byte place (cluster ∷ later) =
    span_at byte place cluster ∷ spans_from (byte + length cluster) (place + length (code_points cluster)) later

-- where the clusters of a text stand, from its start
abbrev pub spans : List ℕ → List Span
spans text = spans_from 0 0 (clusters text)
