-- Examples of bracket pairs.
use Rattle.std.specs.Prelude.{ℕ, ◌==◌, List, map, if◌then◌else◌}
use Rattle.bracket_pairs.specs.declared.role.Role.{Role}
use Rattle.bracket_pairs.specs.declared.role.Role.TheVariants.{Opening, Closing, Neither}
use Rattle.bracket_pairs.specs.Pairs.{Pair, pairs_in_order}

-- the role of an ASCII character of type ON
abbrev pub ascii_role : ℕ → Role
ascii_role c =
    if c == 40 then Opening 41 else if c == 41 then Closing 41
    else if c == 91 then Opening 93 else if c == 93 then Closing 93
    else if c == 123 then Opening 125 else if c == 125 then Closing 125
    else Neither

abbrev pub ascii_roles : List ℕ → List Role
ascii_roles text = map ascii_role text

-- the pairs of an ASCII text whose brackets are of type ON
abbrev pub ascii_pairs : List ℕ → List Pair
ascii_pairs text = pairs_in_order (ascii_roles text)
