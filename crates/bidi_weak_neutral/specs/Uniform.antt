-- The levels of a paragraph without controls: its places are one sequence.
use Rattle.std.specs.Prelude.{ℕ, List, map}
use Rattle.bg_types.specs.declared.class.Bidi.{Bidi}
use Rattle.unicode_tables.specs.Tables.{TableValues}
use Rattle.bidi_explicit.specs.Sequences.{direction_between}
use Rattle.bracket_pairs.specs.N0.{n0}
use Rattle.bidi_weak_neutral.specs.Weak.{weak_types}
use Rattle.bidi_weak_neutral.specs.Neutral.{n1, n2, implicit_level}

-- the levels that the rules give the classes, where both ends of the sequence have the paragraph's direction
abbrev pub uniform_levels : TableValues → (level : ℕ) → List ℕ → List Bidi → List ℕ
uniform_levels tables level points classes =
    let d = direction_between level level in
    map (implicit_level level) (n2 level (n1 d d (n0 tables level d points classes (weak_types d classes))))
