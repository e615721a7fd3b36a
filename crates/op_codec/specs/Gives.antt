-- What a source of known bytes still gives.
use Rattle.std.specs.Prelude.{ℕ, List, [], ◌∷◌, Option, Some, None}

-- the bytes, and after them others forever, if there are any
abbrev pub bytes_to_come : (bytes again : List ℕ) → Option (List ℕ)
bytes_to_come bytes [] = Some bytes
bytes_to_come bytes (b ∷ again) = None
