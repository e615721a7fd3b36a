-- NeutralsAndLevels: the resolved levels of a paragraph, by its isolating run sequences.
use Rattle.std.specs.Prelude.{ℕ, List, [], ◌∷◌, map, fold, length, replicate, is_some, slice_index, slice_set, unwrap_or, Option, Some, None}
use Rattle.bg_types.specs.declared.class.Bidi.{Bidi}
use Rattle.bg_types.specs.declared.class.Bidi.TheVariants.{On}
use Rattle.bg_types.specs.declared.class.Base.{Base}
use Rattle.unicode_tables.specs.Tables.{TableValues}
use Rattle.paragraphs.specs.Text.{code_points}
use Rattle.bidi_explicit.specs.declared.kept.Kept.{Kept}
use Rattle.bidi_explicit.specs.Embedding.{Embedding, embedding, classes_of}
use Rattle.bidi_explicit.specs.Sequences.{RunSequence, kept_at}
use Rattle.bracket_pairs.specs.N0.{n0}
use Rattle.bidi_weak_neutral.specs.Context.{in_context, nearest}
use Rattle.bidi_weak_neutral.specs.Weak.{weak_types}
use Rattle.bidi_weak_neutral.specs.Neutral.{n1, n2, implicit_level}

-- the type of what is kept at a place, after overrides
abbrev pub type_of : Option Kept → Bidi
type_of (Some kept) = kept.class
type_of None = On

-- the types of a sequence before W1
abbrev pub types_before : List (Option Kept) → RunSequence → List Bidi
types_before places s = map (λ i. type_of (kept_at places i)) s.places

-- its characters
abbrev pub characters_of : List ℕ → RunSequence → List ℕ
characters_of points s = map (slice_index points) s.places

-- the types of a sequence by its characters and its types before W1: W1 to W7, N0
abbrev pub types_after_n0 : TableValues → RunSequence → (characters : List ℕ) → (before : List Bidi) → List Bidi
types_after_n0 tables s characters before = n0 tables s.level s.sos characters before (weak_types s.sos before)

-- the same after N1 and N2
abbrev pub types_after : TableValues → RunSequence → (characters : List ℕ) → (before : List Bidi) → List Bidi
types_after tables s characters before = n2 s.level (n1 s.sos s.eos (types_after_n0 tables s characters before))

-- the types of a sequence of a paragraph
abbrev pub types_of_sequence : TableValues → List ℕ → List (Option Kept) → RunSequence → List Bidi
types_of_sequence tables points places s = types_after tables s (characters_of points s) (types_before places s)

-- the levels of a sequence, one a place of it: I1 and I2
abbrev pub sequence_levels : TableValues → List ℕ → List (Option Kept) → RunSequence → List ℕ
sequence_levels tables points places s = map (implicit_level s.level) (types_of_sequence tables points places s)

-- a list with these levels at these places
abbrev pub levels_at : List ℕ → List ℕ → List ℕ → List ℕ
levels_at levels [] new = levels
levels_at levels (i ∷ is) [] = levels
levels_at levels (i ∷ is) (l ∷ ls) = levels_at (slice_set levels i l) is ls

-- the level of a place, where it is kept
abbrev pub kept_level : Option Kept → ℕ → Option ℕ
kept_level (Some kept) level = Some level
kept_level None level = None

abbrev pub kept_levels : List (Option Kept) → List ℕ → List (Option ℕ)
kept_levels [] levels = []
kept_levels (p ∷ ps) [] = []
kept_levels (p ∷ ps) (l ∷ ls) = kept_level p l ∷ kept_levels ps ls

-- each level, and where it is missing the nearest one before it, else the paragraph level (own)
abbrev pub filled_levels : ℕ → List (Option ℕ) → List ℕ
filled_levels paragraph_level = in_context (λ before level after. unwrap_or (nearest is_some None (level ∷ before)) paragraph_level)

-- the levels of each sequence put back in place
abbrev pub put_back : TableValues → List ℕ → List (Option Kept) → List ℕ → List RunSequence → List ℕ
put_back tables points places = fold (λ levels s. levels_at levels s.places (sequence_levels tables points places s))

-- the levels of a paragraph with these code points
abbrev pub resolved_levels : TableValues → List ℕ → Embedding → List ℕ
resolved_levels tables points e =
    filled_levels e.level (kept_levels e.places (put_back tables points e.places (replicate (length points) e.level) e.sequences))

-- the resolved levels of a paragraph's text, one a code point
abbrev pub levels_of : TableValues → Base → List ℕ → List ℕ
levels_of tables base text = resolved_levels tables (code_points text) (embedding base (classes_of tables text))
