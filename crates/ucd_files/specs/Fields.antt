-- What a line says, by the fields that its file names.
use Rattle.std.specs.Prelude.{ℕ, Bool, ◌==◌, ◌&&◌, ◌||◌, List, length, take, drop, codes, Option, Some, None, Result, Ok, Err, if◌then◌else◌}
use Rattle.std.specs.Option.{ok_or, option_and_then, option_map}
use Rattle.std.specs.Result.{result_ok}
use Rattle.std.specs.Str.{bytes_eq}
use Rattle.ucd_files.specs.declared.entry.Entry.{Entry}
use Rattle.ucd_files.specs.declared.fault.Cause.{Cause}
use Rattle.ucd_files.specs.declared.fault.Cause.TheVariants.{MissingField, BadCode, UnknownValue}
use Rattle.ucd_files.specs.Line.{text_of, comment_of, fields_of, field}
use Rattle.ucd_files.specs.Code.{◌>>=◌, code_of, scalar_of, range_of, has_dots}

abbrev pub is_empty : List ℕ → Bool
is_empty bytes = length bytes == 0

-- the value for the code points from first to last
abbrev pub entry_of : {V : Type 0} → ℕ × ℕ → V → Entry V
entry_of range value = record { first = range.0; last = range.1; value = value }

-- a code or a range, with the value of a name
abbrev pub entry_with : {V : Type 0} → List ℕ → Option V → Result (Entry V) Cause
entry_with codes value = range_of codes >>= (λ range. ok_or value UnknownValue >>= (λ v. Ok (entry_of range v)))

-- bidi, lb and ea: a code or a range; a value, by its short name
unfoldable pub property_fields : {V : Type 0} → (List ℕ → Option V) → List ℕ → Result (Entry V) Cause
property_fields named text =
    if is_empty (field 0 text) || is_empty (field 1 text) then Err MissingField
    else (range_of (field 0 text) >>= (λ range.
    ok_or (named (field 1 text)) UnknownValue >>= (λ value.
    Ok (entry_of range value))))

-- brackets: a code; the paired code; `o` or `c`
unfoldable pub bracket_fields : {V : Type 0} → (List ℕ → ℕ → Option V) → List ℕ → Result (Entry V) Cause
bracket_fields kind text =
    if is_empty (field 0 text) || is_empty (field 1 text) || is_empty (field 2 text) then Err MissingField
    else (ok_or (code_of (field 0 text)) BadCode >>= (λ code.
    ok_or (scalar_of (field 1 text)) BadCode >>= (λ paired.
    ok_or (kind (field 2 text) paired) UnknownValue >>= (λ value.
    Ok (entry_of (code, code) value)))))

-- mirror: a code; the mirrored code
unfoldable pub mirror_fields : List ℕ → Result (Entry (Option ℕ)) Cause
mirror_fields text =
    if is_empty (field 0 text) || is_empty (field 1 text) then Err MissingField
    else (ok_or (code_of (field 0 text)) BadCode >>= (λ code.
    ok_or (scalar_of (field 1 text)) BadCode >>= (λ mirrored.
    Ok (entry_of (code, code) (Some mirrored)))))

-- a line says what its text's fields say, and nothing where it has no text
abbrev pub line_by : {V : Type 0} → (List ℕ → Result (Entry V) Cause) → List ℕ → Result (Option (Entry V)) Cause
line_by fields line = if is_empty (text_of line) then Ok None else (fields (text_of line) >>= (λ entry. Ok (Some entry)))

-- `first..last; value` after `@missing:`, the value by its short or its long name
unfoldable pub missing_fields : {V : Type 0} → (List ℕ → Option V) → List ℕ → Option (Entry V)
missing_fields named text =
    if length (fields_of text) == 2 && has_dots (field 0 text)
    then option_and_then (λ range. option_map (entry_of range) (named (field 1 text))) (result_ok (range_of (field 0 text)))
    else None

-- the default that a line's comment gives in bidi, lb and ea
unfoldable pub property_missing : {V : Type 0} → (List ℕ → Option V) → List ℕ → Option (Entry V)
property_missing named line =
    if bytes_eq (take 9 (comment_of line)) (codes "@missing:") then missing_fields named (drop 9 (comment_of line)) else None
