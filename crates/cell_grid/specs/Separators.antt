-- The one row of a paragraph that is its separator alone.
use Rattle.std.specs.Prelude.{ℕ, ◌≡◌, List, [], ◌∷◌}
use Rattle.bg_types.specs.declared.class.Bidi.TheVariants.{B}
use Rattle.unicode_tables.specs.Tables.{TableValues, bidi_of}
use Rattle.paragraphs.specs.Text.{code_points}
use Rattle.cell_grid.specs.Rows.{DrawnRow, row_with}

-- a text of one code point, of class B
pub record IsSeparatorAlone (tables : TableValues) (text : List ℕ) : Type 0 where
  pub point : ℕ
  pub alone : code_points text ≡ point ∷ []
  pub class : bidi_of tables point ≡ B

-- the row of such a code point of this many bytes: it has the paragraph's level (UAX #9, L1), and no column
abbrev pub separator_row : (width para_level bytes : ℕ) → DrawnRow
separator_row width para_level bytes =
    row_with width para_level (record { first_byte = 0; end_byte = bytes; first_place = 0; end_place = 1 } ∷ []) (para_level ∷ []) (0 ∷ [])
