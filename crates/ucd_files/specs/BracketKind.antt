-- What the third field of a line of brackets says.
use Rattle.std.specs.Prelude.{ℕ, List, [], ◌∷◌, Option, Some, None, if◌then◌else◌}
use Rattle.std.specs.Str.{bytes_eq}
use Rattle.unicode_tables.specs.declared.bracket.Bracket.{Bracket}
use Rattle.unicode_tables.specs.declared.bracket.Bracket.TheVariants.{Open, Close}

-- `o` opens and `c` closes, with the paired code point
unfoldable pub bracket_kind : List ℕ → ℕ → Option Bracket
bracket_kind kind paired =
    if bytes_eq kind (111 ∷ []) then Some (Open paired)
    else (if bytes_eq kind (99 ∷ []) then Some (Close paired) else None)
