-- Edits of a text that is drawn from one view.
use Rattle.std.specs.Prelude.{◌≡◌, ℕ, List, [], ◌∷◌, ◌++◌, map, take, drop, Result}
use Rattle.bg_types.specs.declared.class.Base.{Base}
use Rattle.bg_types.specs.declared.fault.Memory.{Memory}
use Rattle.unicode_tables.specs.Tables.{TableValues}
use Rattle.paragraphs.specs.Paragraphs.{Paragraph, paragraphs}
use Rattle.cell_grid.specs.Grids.{DrawnGrid}
use Rattle.view_cache.specs.Drawings.{KeptView, IsDrawing}

-- an edit: these bytes are put in place of those from one number to another
pub record Edit : Type 0 where
  pub from : ℕ
  pub to : ℕ
  pub put : List ℕ

-- the text after an edit
abbrev pub edited : Edit → List ℕ → List ℕ
edited e text = take e.from text ++ (e.put ++ drop e.to text)

-- a text is edited in order and drawn after each edit, at whatever width and base and whether or not there was memory: the view and the text before, and those after
abbrev pub IsEdited : KeptView → List ℕ → List Edit → KeptView → List ℕ → Type 0
IsEdited before text [] after last = (before ≡ after) × (text ≡ last)
IsEdited before text (e ∷ edits) after last =
    (width : ℕ) × (base : Base) × (answer : Result DrawnGrid Memory) × (between : KeptView)
    × IsDrawing before width base (edited e text) answer between × IsEdited between (edited e text) edits after last

-- the texts of a text's paragraphs
abbrev pub paragraph_texts : TableValues → List ℕ → List (List ℕ)
paragraph_texts tables text = map (λ (p : Paragraph). p.text) (paragraphs tables text)

-- an edit that leaves the paragraphs before it and after it as they were, and puts new ones in place of old ones
pub record Replaces (tables : TableValues) (text : List ℕ) (old : List (List ℕ)) (later : List ℕ) (new : List (List ℕ)) : Type 0 where
  pub before : List (List ℕ)
  pub after : List (List ℕ)
  pub was : paragraph_texts tables text ≡ before ++ (old ++ after)
  pub is : paragraph_texts tables later ≡ before ++ (new ++ after)
