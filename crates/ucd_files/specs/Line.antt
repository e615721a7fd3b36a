-- The lines of a data file, and the parts of a line.
use Rattle.std.specs.Prelude.{ℕ, Bool, ◌==◌, ◌-◌, List, [], ◌∷◌, map, length, take, drop, slice_index_or, Option, Some, None}
use Rattle.std.specs.Borrow.{Bor}
use Rattle.std.specs.List.{list_any, prefix_len, suffix_len, before_first, after_first, slice_split}

-- the lines: what stands between the line feeds. After a last line feed stands one more, empty line, which says nothing
abbrev pub lines_of : List ℕ → List (List ℕ)
lines_of bytes = slice_split (λ b. b == 10) bytes

-- the lines that are left, where this rest of the file is
abbrev pub lines_left : Option (Bor (List ℕ)) → List (List ℕ)
lines_left None = []
lines_left (Some rest) = lines_of rest.now

abbrev pub is_among : List ℕ → ℕ → Bool
is_among blanks b = list_any (λ x. x == b) blanks

-- bytes without the blanks at their end
abbrev pub end_trimmed : List ℕ → List ℕ → List ℕ
end_trimmed blanks bytes = take (length bytes - suffix_len (is_among blanks) bytes) bytes

-- bytes without the blanks at both ends
abbrev pub trimmed : List ℕ → List ℕ → List ℕ
trimmed blanks bytes = end_trimmed blanks (drop (prefix_len (is_among blanks) bytes) bytes)

-- space and tab, which are dropped around a field; and CR, which is dropped with them at a line's ends
abbrev pub blanks : List ℕ
blanks = 32 ∷ 9 ∷ []

abbrev pub line_blanks : List ℕ
line_blanks = 32 ∷ 9 ∷ 13 ∷ []

-- what stands before the first `#` of a line, and what stands after it, each without blanks at its ends
abbrev pub text_of : List ℕ → List ℕ
text_of line = trimmed line_blanks (before_first (λ b. b == 35) line)

abbrev pub comment_of : List ℕ → List ℕ
comment_of line = trimmed line_blanks (after_first (λ b. b == 35) line)

-- the fields: what stands between the `;`, each without blanks at its ends
unfoldable pub fields_of : List ℕ → List (List ℕ)
fields_of text = map (trimmed blanks) (slice_split (λ b. b == 59) text)

-- field k, counted from 0, which is empty where it isn't there
abbrev pub field : ℕ → List ℕ → List ℕ
field k text = slice_index_or (fields_of text) k []
