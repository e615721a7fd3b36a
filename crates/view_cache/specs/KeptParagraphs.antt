-- Kept rows: the paragraphs whose rows are kept, with what they print, and what a use of a paragraph does to them.
use Rattle.std.specs.Prelude.{◌≡◌, ℕ, Bool, not, List, [], ◌∷◌, map, Option, IfSome}
use Rattle.std.specs.List.{All}
use Rattle.unicode_tables.specs.Tables.{TableValues}
use Rattle.cell_grid.specs.Print.{printed_paragraph}
use Rattle.cell_grid.specs.Rows.{DrawnRow, rows_of}
use Rattle.view_cache.specs.Keys.{ParagraphKey}
use Rattle.view_cache.specs.Uses.{is_kept, used}

-- what is kept of a paragraph: its rows, and what they print, if that was asked for
pub record KeptParagraph : Type 0 where
  pub rows : List DrawnRow
  pub print : Option (List ℕ)

-- how many keys there is room for, the key that each hash begins with, and the keys with what is kept under each, most recently used first
pub record KeptParagraphs : Type 0 where
  pub room : ℕ
  pub hash_key : ℕ
  pub entries : List (ParagraphKey × KeptParagraph)

-- nothing is kept
abbrev pub nothing_kept : (room hash_key : ℕ) → KeptParagraphs
nothing_kept room hash_key = record { room = room; hash_key = hash_key; entries = [] }

abbrev pub kept_keys : KeptParagraphs → List ParagraphKey
kept_keys kept = map (λ e. e.0) kept.entries

-- the rows under a key are those of its paragraph by these tables, counted from the paragraph's start, and the print is the paragraph's
pub record IsLaidBy (tables : TableValues) (e : ParagraphKey × KeptParagraph) : Type 0 where
  pub rows : e.1.rows ≡ rows_of tables e.0.width e.0.base e.0.text
  pub print : IfSome e.1.print (λ print. print ≡ printed_paragraph tables e.0.width e.0.base e.0.text)

-- all are
abbrev pub AreLaid : TableValues → KeptParagraphs → Type 0
AreLaid tables kept = All (IsLaidBy tables) kept.entries

-- the key was used last
pub record IsNewest (key : ParagraphKey) (kept : KeptParagraphs) : Type 0 where
  pub earlier : List ParagraphKey
  pub keys : kept_keys kept ≡ key ∷ earlier

-- a use of a key: what is kept before and after it, and whether its paragraph was laid out
pub record IsUse (key : ParagraphKey) (before : KeptParagraphs) (laid_out : Bool) (after : KeptParagraphs) : Type 0 where
  pub room : after.room ≡ before.room
  pub hash_key : after.hash_key ≡ before.hash_key
  pub keys : kept_keys after ≡ used before.room key (kept_keys before)
  -- it was exactly where nothing was kept under the key
  pub anew : laid_out ≡ not (is_kept key (kept_keys before))
