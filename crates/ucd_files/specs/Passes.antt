-- The two passes over a file's lines that set its values: first the defaults, then the data lines.
use Rattle.std.specs.Prelude.{ℕ, List, [], ◌∷◌, Option, Some, None, if◌then◌else◌}
use Rattle.ucd_files.specs.declared.entry.Entry.{Entry}
use Rattle.ucd_files.specs.Entry.{covers}
use Rattle.ucd_files.specs.Reading.{Reading, line_of, said}

-- what a data line says
abbrev pub data_said : {V : Type 0} → Reading V → List ℕ → Option (Entry V)
data_said reading line = said (line_of reading line)

-- the value at c, after a line
abbrev pub written : {V : Type 0} → Option (Entry V) → ℕ → V → V
written None c before = before
written (Some entry) c before = if covers c entry then entry.value else before

-- the value at c, after lines that say this
abbrev pub overlaid : {V : Type 0} → (List ℕ → Option (Entry V)) → List (List ℕ) → ℕ → V → V
overlaid says [] c before = before
overlaid says (line ∷ lines) c before = overlaid says lines c (written (says line) c before)
