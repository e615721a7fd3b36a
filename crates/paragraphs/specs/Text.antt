-- The code points of a text.
use Rattle.std.specs.Prelude.{ℕ, List}
use Rattle.std.specs.Str.{chars}

-- a text is its bytes in UTF-8, and a place is a position in this list
abbrev pub code_points : List ℕ → List ℕ
code_points text = chars text
