-- Values by their names.
use Rattle.std.specs.Prelude.{ℕ, List, Option, find, map}
use Rattle.std.specs.Borrow.{Bor}
use Rattle.std.specs.Option.{option_map}
use Rattle.std.specs.Str.{bytes_eq}

-- the value of this name, in a table of names
unfoldable pub named : {V : Type 0} → List (List ℕ × V) → List ℕ → Option V
named table name = option_map (λ row. row.1) (find (λ row. bytes_eq row.0 name) table)

-- a table of the code, as names and values
abbrev pub name_table : {V : Type 0} → List (Bor (List ℕ) × V) → List (List ℕ × V)
name_table table = map (λ row. (row.0.now, row.1)) table
