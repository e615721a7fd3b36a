-- Codes and ranges as a data file spells them.
use Rattle.std.specs.Prelude.{ℕ, Bool, ◌==◌, ◌+◌, ◌*◌, ◌&&◌, nat_lt, nat_le, List, [], ◌∷◌, length, fold, Option, Some, None, Result, Ok, Err, if◌then◌else◌}
use Rattle.std.specs.Char.{digit_value}
use Rattle.std.specs.Option.{ok_or, option_and_then}
use Rattle.std.specs.List.{list_all, list_any, before_first, after_first}
use Rattle.ucd_files.specs.declared.fault.Cause.{Cause}
use Rattle.ucd_files.specs.declared.fault.Cause.TheVariants.{BadCode, BadRange}

-- the next step, or the first fault
infixl 10 ◌>>=◌
abbrev pub ◌>>=◌ : {A B : Type 0} → Result A Cause → (A → Result B Cause) → Result B Cause
(Ok x) >>= f = f x
(Err cause) >>= f = Err cause

abbrev pub is_hex_digit : ℕ → Bool
is_hex_digit b = nat_lt (digit_value b) 16

-- the number that hexadecimal digits in either case spell
abbrev pub hex_value : List ℕ → ℕ
hex_value digits = fold (λ n b. n * 16 + digit_value b) 0 digits

-- 4 to 6 hexadecimal digits, and at most 10FFFF
unfoldable pub code_of : List ℕ → Option ℕ
code_of digits =
    if nat_le 4 (length digits) && nat_le (length digits) 6 && list_all is_hex_digit digits && nat_le (hex_value digits) 0x10FFFF
    then Some (hex_value digits) else None

abbrev pub is_surrogate : ℕ → Bool
is_surrogate c = nat_le 0xD800 c && nat_le c 0xDFFF

-- a code that is a scalar value
unfoldable pub scalar_of : List ℕ → Option ℕ
scalar_of digits = option_and_then (λ c. if is_surrogate c then None else Some c) (code_of digits)

abbrev pub has_dots : List ℕ → Bool
has_dots field = list_any (λ b. b == 46) field

-- what stands after the second of two dots. No code is empty
abbrev pub behind_dot : List ℕ → List ℕ
behind_dot [] = []
behind_dot (b ∷ bytes) = if b == 46 then bytes else []

-- how a field spells its first and its last code: `first..last`, or one code for both
unfoldable pub ends_of : List ℕ → List ℕ × List ℕ
ends_of field =
    if has_dots field then (before_first (λ b. b == 46) field, behind_dot (after_first (λ b. b == 46) field)) else (field, field)

-- the first and the last code of a field
unfoldable pub range_of : List ℕ → Result (ℕ × ℕ) Cause
range_of field = do
  first ← ok_or (code_of (ends_of field).0) BadCode
  last ← ok_or (code_of (ends_of field).1) BadCode
  if nat_le first last then Ok (first, last) else Err BadRange
