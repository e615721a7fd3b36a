-- The number that a word writes.
use Rattle.std.specs.Prelude.{◌&&◌, Bool, ℕ, List, length, Option, Some, None, nat_lt, nat_le, if◌then◌else◌}
use Rattle.std.specs.Char.{digit_value}
use Rattle.std.specs.List.{list_all}
use Rattle.std.specs.Str.Parse.{digits_value}

-- each byte is a digit of the base
abbrev pub is_digits : ℕ → List ℕ → Bool
is_digits base word = list_all (λ b. nat_lt (digit_value b) base) word

-- the number of a word that has from `least` to `most` digits of the base, leading zeros included
abbrev pub number_in : (base least most : ℕ) → List ℕ → Option ℕ
number_in base least most word =
    if is_digits base word && nat_le least (length word) && nat_le (length word) most then Some (digits_value base word) else None

-- the number, if it is at most the limit
abbrev pub up_to : ℕ → Option ℕ → Option ℕ
up_to limit None = None
up_to limit (Some n) = if nat_le n limit then Some n else None
