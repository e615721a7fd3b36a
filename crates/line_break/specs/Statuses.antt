-- BreakStatus: whether a line must, may or can't end after each code point.
use Rattle.std.specs.Prelude.{ℕ, List, [], ◌∷◌, ◌++◌, map}
use Rattle.unicode_tables.specs.Tables.{TableValues}
use Rattle.paragraphs.specs.Text.{code_points}
use Rattle.line_break.specs.declared.status.Break.{Break}
use Rattle.line_break.specs.declared.status.Break.TheVariants.{Must, May}
use Rattle.line_break.specs.Items.{Item, point_of}
use Rattle.line_break.specs.Context.{before, after}
use Rattle.line_break.specs.Rules.{first_rule, rules}

-- the status of the boundary between the code points `front`, at least one, and those after it
abbrev pub status : List Item → List Item → Break
-- LB3
status front [] = Must
-- LB4 to LB30b, or else LB31
status front (next ∷ later) = first_rule rules May (before front) (after next)

-- the statuses after each of the code points after `front`
abbrev pub statuses_behind : List Item → List Item → List Break
statuses_behind front [] = []
statuses_behind front (p ∷ later) = status (front ++ p ∷ []) later ∷ statuses_behind (front ++ p ∷ []) later

abbrev pub statuses : List Item → List Break
statuses points = statuses_behind [] points

-- the statuses after each code point of a paragraph's text
unfoldable pub breaks : TableValues → List ℕ → List Break
breaks tables text = statuses (map (point_of tables) (code_points text))
