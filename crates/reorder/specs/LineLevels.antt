-- The levels of a line's clusters: UAX #9, L1.
use Rattle.std.specs.Prelude.{ℕ, Bool, true, false, ◌&&◌, ◌||◌, List, [], ◌∷◌, map, drop, slice_index, if◌then◌else◌}
use Rattle.std.specs.Str.{chars}
use Rattle.bg_types.specs.declared.class.Bidi.{Bidi}
use Rattle.bg_types.specs.declared.class.Bidi.TheVariants.{S, B, Ws}
use Rattle.bg_types.specs.Classes.{is_removed, is_isolate_control}
use Rattle.unicode_tables.specs.Tables.{TableValues, bidi_of}

-- the separators of segments and paragraphs
unfoldable pub is_separator : Bidi → Bool
is_separator S = true
is_separator B = true
is_separator _ = false

-- white space, isolate controls, and the classes that X9 removes
unfoldable pub is_run_class : Bidi → Bool
is_run_class Ws = true
is_run_class class = is_isolate_control class || is_removed class

-- L1 resets a code point of such a class at the line's end, and before one that it resets
abbrev pub may_be_reset : Bidi → Bool
may_be_reset class = is_separator class || is_run_class class

-- a line's rest begins with a separator, with a run right before one, or with a run at the line's end, or is empty
abbrev pub begins_reset : List Bidi → Bool
begins_reset [] = true
begins_reset (c ∷ cs) = is_separator c || (is_run_class c && begins_reset cs)

-- L1: the level of each code point of a line, by their classes and their levels before
abbrev pub levels_after_l1 : ℕ → List Bidi → List ℕ → List ℕ
levels_after_l1 para [] levels = []
levels_after_l1 para (c ∷ cs) [] = []
levels_after_l1 para (c ∷ cs) (l ∷ ls) = (if begins_reset (c ∷ cs) then para else l) ∷ levels_after_l1 para cs ls

-- the first of each group, of these sizes
abbrev pub group_firsts : List ℕ → List ℕ → List ℕ
group_firsts [] levels = []
group_firsts (size ∷ sizes) levels = slice_index levels 0 ∷ group_firsts sizes (drop size levels)

-- a level for each cluster: that of its first code point after L1
abbrev pub line_levels_of : TableValues → List ℕ → List ℕ → List ℕ → ℕ → List ℕ
line_levels_of tables line levels sizes para =
    group_firsts sizes (levels_after_l1 para (map (bidi_of tables) (chars line)) levels)
