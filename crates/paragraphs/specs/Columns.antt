-- ClustersAndColumns, its second half: the columns of a cluster, by cases in their order.
use Rattle.std.specs.Prelude.{ℕ, Bool, false, ◌&&◌, ◌||◌, if◌then◌else◌, List, [], ◌∷◌}
use Rattle.std.specs.List.{list_all, list_any}
use Rattle.unicode_tables.specs.Tables.{TableValues, bidi_of, lb_of, ea_of}
pub use Rattle.unicode_tables.specs.Alone.{is_direction_mark}
use Rattle.paragraphs.specs.Classes.{is_separator, is_removed, is_isolate_control, is_line_end, is_wide, is_ambiguous}

-- c has Bidi class B or break class BK, CR, LF or NL
abbrev pub ends_line : TableValues → ℕ → Bool
ends_line tables c = is_separator (bidi_of tables c) || is_line_end (lb_of tables c)

-- the first of these code points is such a one
abbrev pub begins_with_end : TableValues → List ℕ → Bool
begins_with_end tables [] = false
begins_with_end tables (c ∷ rest) = ends_line tables c

-- c has an X9 class, is an isolate control by its class or is a mark of direction
abbrev pub is_invisible : TableValues → ℕ → Bool
is_invisible tables c = is_removed (bidi_of tables c) || is_isolate_control (bidi_of tables c) || is_direction_mark c

-- c is East Asian W or F
abbrev pub takes_two : TableValues → ℕ → Bool
takes_two tables c = is_wide (ea_of tables c)

-- own: c is East Asian A, and the tables make such code points wide
abbrev pub takes_two_by_choice : TableValues → ℕ → Bool
takes_two_by_choice tables c = tables.wide_ambiguous && is_ambiguous (ea_of tables c)

-- the columns of a cluster in which something is seen and nothing is wide: the choice reads only its first code point
abbrev pub columns_by_choice : TableValues → List ℕ → ℕ
columns_by_choice tables [] = 1
columns_by_choice tables (c ∷ rest) = if takes_two_by_choice tables c then 2 else 1

-- the columns of a cluster of these code points
abbrev pub columns_of : TableValues → List ℕ → ℕ
columns_of tables cluster =
    if begins_with_end tables cluster then 0
    else (if list_all (is_invisible tables) cluster then 0
    else (if list_any (takes_two tables) cluster then 2 else columns_by_choice tables cluster))
