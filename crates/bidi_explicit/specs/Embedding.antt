-- What the explicit rules make of a paragraph.
use Rattle.std.specs.Prelude.{ℕ, ◌≤◌, List, map, Option, Some, None}
use Rattle.bg_types.specs.declared.class.Bidi.{Bidi}
use Rattle.bg_types.specs.declared.class.Base.{Base}
use Rattle.bg_types.specs.declared.class.Base.TheVariants.{Auto, Left, Right}
use Rattle.unicode_tables.specs.Tables.{TableValues, bidi_of}
use Rattle.paragraphs.specs.Text.{code_points}
use Rattle.bidi_explicit.specs.declared.kept.Kept.{Kept}
use Rattle.bidi_explicit.specs.Nesting.{nest, base}
use Rattle.bidi_explicit.specs.Levels.{explicit_places}
use Rattle.bidi_explicit.specs.Sequences.{RunSequence, sequences_of}

-- the classes of a text's code points
abbrev pub classes_of : TableValues → List ℕ → List Bidi
classes_of tables text = map (bidi_of tables) (code_points text)

-- P2 and P3, or the choice of another base (HL1)
abbrev pub paragraph_level : Base → List Bidi → ℕ
paragraph_level Auto cs = base (nest cs)
paragraph_level Left cs = 0
paragraph_level Right cs = 1

-- the paragraph's level; what is kept at each place, none where X9 removes it; and the isolating run sequences
pub record Embedding : Type 0 where
  pub level : ℕ
  pub places : List (Option Kept)
  pub sequences : List RunSequence

-- what the rules make of a paragraph of this level
abbrev pub embedding_at : ℕ → List Bidi → Embedding
embedding_at level cs =
    let places = explicit_places level cs in
    record { level = level; places = places; sequences = sequences_of level cs places }

abbrev pub embedding : Base → List Bidi → Embedding
embedding direction cs = embedding_at (paragraph_level direction cs) cs

-- the level of a place is at most max_depth
abbrev pub IsWithinDepth : Option Kept → Type 0
IsWithinDepth (Some k) = k.level ≤ 125
IsWithinDepth None = Unit {0}
