-- What the crates of the layout give for the text of a case.
use Rattle.std.specs.Prelude.{◌≡◌, ℕ, Bool, List, map, length, replicate, slice_get, Some}
use Rattle.std.specs.List.{filter, flat_map}
use Rattle.bg_types.specs.declared.class.Base.{Base}
use Rattle.ucd_files.specs.Tables.{TableValues}
use Rattle.paragraphs.specs.Text.{code_points}
use Rattle.paragraphs.specs.Paragraphs.{Paragraph, paragraphs}
use Rattle.bidi_explicit.specs.Embedding.{paragraph_level, classes_of}
use Rattle.bidi_weak_neutral.specs.Levels.{levels_of}
use Rattle.reorder.specs.LineLevels.{line_levels_of}
use Rattle.reorder.specs.VisualList.{visual_list}
use Rattle.line_break.specs.Statuses.{breaks}
use Rattle.line_break.specs.Lines.{is_break}
use Rattle.conformance.specs.declared.bidi.BidiLine.{BidiLine}
use Rattle.conformance.specs.declared.case.Wanted.{Wanted}
use Rattle.conformance.specs.Agreement.{is_wanted_at, IsAsWanted}
use Rattle.conformance.specs.Choices.{Explains}
use Rattle.conformance.specs.declared.case.BreakCase.{BreakCase}
use Rattle.conformance.specs.declared.tally.Choice.{Choice}

-- whether a line may or must end after each code point of a paragraph
abbrev pub paragraph_breaks : TableValues → Paragraph → List Bool
paragraph_breaks tables p = map is_break (breaks tables p.text)

-- the same of a text
abbrev pub breaks_of : TableValues → List ℕ → List Bool
breaks_of tables text = flat_map (paragraph_breaks tables) (paragraphs tables text)

-- a text as one line by a base direction, each code point a cluster of its own: the paragraph's level, the levels after L1, and the order of L2
pub record IsLineOf (tables : TableValues) (base : Base) (text : List ℕ) (line : BidiLine) : Type 0 where
  pub level : line.level ≡ paragraph_level base (classes_of tables text)
  pub levels : line.levels.items ≡ line_levels_of tables text (levels_of tables base text) (replicate (length (code_points text)) 1) line.level
  pub order : line.order.items ≡ visual_list line.levels.items

-- the paragraph's level, the levels and the order that came are those wanted
pub record CameAsWanted (tables : TableValues) (base : Base) (text : List ℕ) (wanted : Wanted) : Type 0 where
  pub line : BidiLine
  pub is : IsLineOf tables base text line
  pub as_wanted : IsAsWanted wanted line (filter (is_wanted_at wanted.levels.items) line.order.items)

-- a text that is one paragraph, but for an empty one after its separator
pub record IsOneParagraph (tables : TableValues) (text : List ℕ) : Type 0 where
  pub first : Paragraph
  pub is : slice_get (paragraphs tables text) 0 ≡ Some first
  pub whole : first.text ≡ text

-- the choice makes each difference between the breaks that a line wants and those of its text
abbrev pub IsByChoice : TableValues → BreakCase → Choice → Type 0
IsByChoice tables case choice = Explains tables (code_points case.text.bytes.items) case.breaks.items (breaks_of tables case.text.bytes.items) choice
