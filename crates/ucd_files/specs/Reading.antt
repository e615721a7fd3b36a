-- How the lines of a file are read: the definition TableValue, and the first faulty line.
use Rattle.std.specs.Prelude.{ℕ, ◌+◌, ◌==◌, nat_lt, count_by, take, length, List, [], ◌∷◌, Option, Some, None, Result, Ok, Err, if◌then◌else◌}
use Rattle.std.specs.List.{filter_map}
use Rattle.std.specs.Str.Lossy.{utf8_valid_len}
use Rattle.ucd_files.specs.declared.entry.Entry.{Entry}
use Rattle.ucd_files.specs.declared.fault.Cause.{Cause}
use Rattle.ucd_files.specs.declared.fault.Cause.TheVariants.{BadUtf8}
use Rattle.ucd_files.specs.Line.{lines_of}
use Rattle.ucd_files.specs.Entry.{last_value}
use Rattle.ucd_files.specs.Fields.{line_by}

-- fields: what the text of a line says by its fields: of which code points, or a fault. missing: the default that a line's
-- comment gives. absent: the value where no line says one
pub record Reading (V : Type 0) : Type 0 where
  pub fields : List ℕ → Result (Entry V) Cause
  pub missing : List ℕ → Option (Entry V)
  pub absent : V

-- what a line says as a data line: nothing, where it has no text
abbrev pub line_of : {V : Type 0} → Reading V → List ℕ → Result (Option (Entry V)) Cause
line_of reading = line_by reading.fields

-- what a line says that isn't faulty
abbrev pub said : {V : Type 0} → Result (Option (Entry V)) Cause → Option (Entry V)
said (Ok entry) = entry
said (Err cause) = None

-- the data lines, and the defaults
abbrev pub data_lines : {V : Type 0} → Reading V → List ℕ → List (Entry V)
data_lines reading bytes = filter_map (λ line. said (line_of reading line)) (lines_of bytes)

abbrev pub missing_lines : {V : Type 0} → Reading V → List ℕ → List (Entry V)
missing_lines reading bytes = filter_map reading.missing (lines_of bytes)

-- TableValue: the value at c is that of the last data line that covers it, else that of the last such `@missing` line, else the default
unfoldable pub value_at : {V : Type 0} → Reading V → List ℕ → ℕ → V
value_at reading bytes c = last_value (data_lines reading bytes) c (last_value (missing_lines reading bytes) c reading.absent)

-- this line's fault, or else a later line's
abbrev pub fault_or : {V : Type 0} → Result (Option (Entry V)) Cause → ℕ → Option (ℕ × Cause) → Option (ℕ × Cause)
fault_or (Err cause) n later = Some (n, cause)
fault_or (Ok entry) n later = later

-- the first of these lines that is faulty, with its number, where the first of them is line n
abbrev pub first_faulty : {V : Type 0} → (List ℕ → Result (Option (Entry V)) Cause) → List (List ℕ) → ℕ → Option (ℕ × Cause)
first_faulty line [] n = None
first_faulty line (bytes ∷ rest) n = fault_or (line bytes) n (first_faulty line rest (n + 1))

-- the line of the byte at this index, counted from 1
abbrev pub line_at : List ℕ → ℕ → ℕ
line_at bytes at = count_by (λ b. b == 10) (take at bytes) + 1

-- the first fault of a file. A byte that isn't UTF-8 comes before all others
unfoldable pub first_fault : {V : Type 0} → Reading V → List ℕ → Option (ℕ × Cause)
first_fault reading bytes =
    if nat_lt (utf8_valid_len bytes) (length bytes) then Some (line_at bytes (utf8_valid_len bytes), BadUtf8)
    else first_faulty (line_of reading) (lines_of bytes) 1
