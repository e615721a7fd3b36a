-- Paragraphs as they are stored, and what they are seen as.
use Rattle.std.specs.Prelude.{ℕ, List, Option, is_some, count_by, map as each, string_bytes, sum_by}
use Rattle.std.specs.Option.{option_map_or}
use Rattle.paragraphs.specs.Text.{code_points}
use Rattle.text_buffer.specs.Buffers.{KeptParagraph}
use Rattle.text_buffer.specs.declared.piece.Piece.{Piece}

module _ {K : Type 0} where
  abbrev pub points_of : Piece K → List ℕ
  points_of p = code_points (string_bytes p.text)

  abbrev pub points_in : List (Piece K) → List (List ℕ)
  points_in ps = each points_of ps

  -- what is kept of each
  abbrev pub kept_of : List (Piece K) → List (Option K)
  kept_of ps = each (λ p. p.kept) ps

  -- of how many of them something is kept
  abbrev pub kept_count : List (Piece K) → ℕ
  kept_count ps = count_by (λ p. is_some p.kept) ps

  abbrev pub seen : Piece K → KeptParagraph K
  seen p = record { points = points_of p; kept = p.kept }

  -- what weighs that is kept of it, and of some
  abbrev pub weight_of : (weight : K → ℕ) → Piece K → ℕ
  weight_of weight p = option_map_or weight p.kept 0

  abbrev pub weight_in : (weight : K → ℕ) → List (Piece K) → ℕ
  weight_in weight ps = sum_by (weight_of weight) ps
