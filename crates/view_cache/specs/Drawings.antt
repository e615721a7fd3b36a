-- A view, and what a draw does to it.
use Rattle.std.specs.Prelude.{◌≡◌, ℕ, List, [], map, take, Result, IfOk, OnOk, OnErr}
use Rattle.std.specs.Result.{result_map_both}
use Rattle.bg_types.specs.declared.class.Base.{Base}
use Rattle.bg_types.specs.declared.fault.Memory.{Memory}
use Rattle.unicode_tables.specs.Tables.{TableValues}
use Rattle.paragraphs.specs.Paragraphs.{Paragraph, paragraphs}
use Rattle.cell_grid.specs.Grids.{DrawnGrid, grid_of}
use Rattle.cell_grid.specs.Print.{shown}
use Rattle.view_cache.specs.Keys.{ParagraphKey, paragraph_key}
use Rattle.view_cache.specs.Uses.{all_used, laid_anew}

-- a view: its tables, how many keys it has room for, the key that their hashes begin with, the keys that it keeps, most recently used first, and how many paragraphs the last draw that answered Ok laid out
pub record KeptView : Type 0 where
  pub tables : TableValues
  pub room : ℕ
  pub hash_key : ℕ
  pub keys : List ParagraphKey
  pub laid : ℕ

-- a view that has drawn nothing
abbrev pub empty_view : TableValues → (room hash_key : ℕ) → KeptView
empty_view tables room hash_key = record { tables = tables; room = room; hash_key = hash_key; keys = []; laid = 0 }

-- the keys of paragraphs, in order
abbrev pub paragraph_keys : (width : ℕ) → Base → List Paragraph → List ParagraphKey
paragraph_keys width base ps = map (λ (p : Paragraph). paragraph_key p.text width base) ps

-- the keys that a draw of a text uses: those of its paragraphs
abbrev pub uses_of : TableValues → (width : ℕ) → Base → List ℕ → List ParagraphKey
uses_of tables width base text = paragraph_keys width base (paragraphs tables text)

-- kept and counted: a draw of a text at a width and a base, the view before and after it and the answer
pub record IsDrawing (before : KeptView) (width : ℕ) (base : Base) (text : List ℕ) (answer : Result DrawnGrid Memory) (after : KeptView) : Type 0 where
  -- the grid is that of the text
  pub grid : IfOk answer (λ g. g ≡ grid_of before.tables width base text)
  pub tables : after.tables ≡ before.tables
  pub room : after.room ≡ before.room
  pub hash_key : after.hash_key ≡ before.hash_key
  -- the keys are those after all uses
  pub keys : OnOk answer (after.keys ≡ all_used before.room (uses_of before.tables width base text) before.keys)
  -- each use that found nothing is counted
  pub laid : OnOk answer (after.laid ≡ laid_anew before.room (uses_of before.tables width base text) before.keys)
  -- after Memory the keys are those after a beginning of the uses
  pub begun : OnErr answer ((n : ℕ) × (after.keys ≡ all_used before.room (take n (uses_of before.tables width base text)) before.keys))
  pub uncounted : OnErr answer (after.laid ≡ before.laid)

-- a print of a text: it does to the view what a draw does that answers likewise, and is the print of the grid
pub record IsPrinting (before : KeptView) (width : ℕ) (base : Base) (text : List ℕ) (answer : Result (List ℕ) Memory) (after : KeptView) : Type 0 where
  pub drawing : IsDrawing before width base text (result_map_both (λ print. grid_of before.tables width base text) (λ fault. fault) answer) after
  pub print : IfOk answer (λ print. print ≡ shown before.tables width base text)
