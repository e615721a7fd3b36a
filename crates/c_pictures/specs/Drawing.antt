-- What a call that draws answers.
use Rattle.std.specs.Prelude.{◌≡◌, ◌⊎◌, ◌<◌, ◌≤◌, ℕ, List, length, Some, None}
use Rattle.std.specs.Str.{IsUtf8}
use Rattle.bg_types.specs.declared.class.Base.{Base}
use Rattle.unicode_tables.specs.Tables.{TableValues}
use Rattle.cell_grid.specs.Grids.{DrawnGrid, grid_of}
use Rattle.c_pictures.specs.Bases.{base_of}

-- a width is 2 to 500 columns
abbrev pub IsWidth : ℕ → Type 0
IsWidth width = (2 ≤ width) × (width ≤ 500)

-- a width, the number of a base and bytes that can be drawn
pub record IsDrawable (width base : ℕ) (text : List ℕ) : Type 0 where
  pub width_is : IsWidth width
  pub base_is : ¬ (base_of base ≡ None)
  pub limited : length text ≤ 4_000_000
  pub utf8 : IsUtf8 text

-- these bytes, which are a text that can be drawn, were drawn at the width and the base with this number
pub record IsDrawnBy (tables : TableValues) (width base : ℕ) (text : List ℕ) (grid : DrawnGrid) : Type 0 where
  pub direction : Base
  pub base_is : base_of base ≡ Some direction
  pub grid_is : grid ≡ grid_of tables width direction text

-- the fault's number, with its cause. Lack of memory comes after the others
abbrev pub IsRefusedDrawing : (width base : ℕ) → List ℕ → (fault : ℕ) → Type 0
IsRefusedDrawing width base text fault =
    ((fault ≡ 9) × IsDrawable width base text)
    ⊎ (((fault ≡ 105) × (¬ (IsWidth width)))
    ⊎ (((fault ≡ 106) × (base_of base ≡ None))
    ⊎ (((fault ≡ 104) × (4_000_000 < length text))
    ⊎ ((fault ≡ 103) × (¬ (IsUtf8 text))))))
