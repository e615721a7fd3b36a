-- The listing of operations, one line each: the definition Files, listing.
use Rattle.std.specs.Prelude.{ℕ, ◌-◌, true, List, [], ◌∷◌, ◌++◌, length, replicate, codes, decimal}
use Rattle.std.specs.Fmt.{digits}
use Rattle.std.specs.List.{flat_map, join_with_byte}
use Rattle.bg_types.specs.Identifier.{Identifier}
use Rattle.bg_types.specs.declared.op.Place.{Place}
use Rattle.bg_types.specs.declared.op.Place.TheVariants.{Root, After}
use Rattle.bg_types.specs.declared.op.OpView.{OpView}
use Rattle.bg_types.specs.declared.op.OpView.TheVariants.{Insert, Erase}

-- `C.S`
abbrev pub identifier_word : Identifier → List ℕ
identifier_word id = decimal id.counter ++ 46 ∷ decimal id.site

abbrev pub parent_word : Place → List ℕ
parent_word Root = codes "root"
parent_word (After id) = identifier_word id

-- a character in upper-case hexadecimal, with zeros before it to four digits
abbrev pub scalar_word : ℕ → List ℕ
scalar_word ch = replicate (4 - length (digits 16 true ch)) 48 ++ digits 16 true ch

-- the words of an operation's line
abbrev pub line_words : OpView → List (List ℕ)
line_words (Insert id parent ch) = codes "i" ∷ identifier_word id ∷ parent_word parent ∷ scalar_word ch ∷ []
line_words (Erase target) = codes "e" ∷ identifier_word target ∷ []

-- the words with one space between two, ended by LF
abbrev pub line_of : OpView → List ℕ
line_of op = join_with_byte 32 (line_words op) ++ 10 ∷ []

-- the lines in the order of the operations
abbrev pub listing_of : List OpView → List ℕ
listing_of ops = flat_map line_of ops
