-- What a buffer is seen as: the paragraphs of its text, each with what is kept of it. Joined they are the text.
use Rattle.std.specs.Prelude.{◌≡◌, ◌≤◌, ◌-◌, ◌++◌, ℕ, List, Option, None, length, take, drop, map as each, encode_utf8_all, sum_by}
use Rattle.std.specs.List.{concat}
use Rattle.std.specs.Option.{option_map_or}
use Rattle.unicode_tables.specs.Tables.{TableValues}
use Rattle.paragraphs.specs.Paragraphs.{paragraph_points}

-- a paragraph: its code points, and what is kept of it or nothing
pub record KeptParagraph (K : Type 0) : Type 0 where
  pub points : List ℕ
  pub kept : Option K

module _ {K : Type 0} where
  abbrev pub paragraphs_in : List (KeptParagraph K) → List (List ℕ)
  paragraphs_in ps = each (λ p. p.points) ps

  abbrev pub kept_in : List (KeptParagraph K) → List (Option K)
  kept_in ps = each (λ p. p.kept) ps

  abbrev pub text_in : List (KeptParagraph K) → List ℕ
  text_in ps = concat (paragraphs_in ps)

  -- of all of these nothing is kept
  abbrev pub forgotten : List (Option K) → List (Option K)
  forgotten kept = each (λ _. None) kept

  -- of the paragraphs from `from` up to `to` what was kept, and nothing of the others
  abbrev pub kept_but : (from to : ℕ) → List (Option K) → List (Option K)
  kept_but from to kept = forgotten (take from kept) ++ (take (to - from) (drop from kept) ++ forgotten (drop to kept))

  -- what all that is kept weighs together
  abbrev pub kept_weight : (weight : K → ℕ) → List (KeptParagraph K) → ℕ
  kept_weight weight ps = sum_by (λ p. option_map_or weight p.kept 0) ps

-- a paragraph of a buffer, by its number
pub record Standing (K : Type 0) : Type 0 where
  pub paragraphs : List (KeptParagraph K)
  pub number : ℕ

-- how many bytes these code points take
abbrev pub bytes_in : List ℕ → ℕ
bytes_in points = length (encode_utf8_all points)

-- these are the paragraphs of the text that they are joined
abbrev pub IsSplit : TableValues → List (List ℕ) → Type 0
IsSplit tables paragraphs = paragraphs ≡ paragraph_points tables (concat paragraphs)

-- no text is longer than 4,000,000 bytes, and each paragraph but the last has one at least; while an edit is under way
-- those that it puts in and those that it takes out stand side by side
pub record Fits (texts : List (List ℕ)) : Type 0 where
  pub bytes : bytes_in (concat texts) ≤ 9_000_000
  pub paragraphs : length texts ≤ 9_000_000
