-- What lines say of code points, and which line decides.
use Rattle.std.specs.Prelude.{ℕ, Bool, ◌&&◌, nat_le, List, reverse, find}
use Rattle.std.specs.Option.{option_map_or}
use Rattle.ucd_files.specs.declared.entry.Entry.{Entry}

-- the line covers c
abbrev pub covers : {V : Type 0} → ℕ → Entry V → Bool
covers c entry = nat_le entry.first c && nat_le c entry.last

-- the value of the last of these lines that covers c, or else this value
unfoldable pub last_value : {V : Type 0} → List (Entry V) → ℕ → V → V
last_value entries c otherwise = option_map_or (λ entry. entry.value) (find (covers c) (reverse entries)) otherwise
