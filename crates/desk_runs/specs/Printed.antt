-- What a show writes of a text.
use Rattle.std.specs.Prelude.{ℕ, List, encode_utf8_all}
use Rattle.bg_types.specs.declared.class.Base.{Base}
use Rattle.ucd_files.specs.Tables.{TableValues}
use Rattle.cell_grid.specs.Print.{shown}

-- the print of the grid of a text, which is a list of characters, at a width in columns
abbrev pub printed : TableValues → (width : ℕ) → Base → List ℕ → List ℕ
printed tables width base text = shown tables width base (encode_utf8_all text)
