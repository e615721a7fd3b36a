-- The words of a line.
use Rattle.std.specs.Prelude.{◌≡◌, ◌==◌, true, false, Bool, ℕ, List, [], ◌∷◌, filter}
use Rattle.std.specs.List.{slice_split}

-- the word has a byte
abbrev pub is_word : List ℕ → Bool
is_word [] = false
is_word (b ∷ word) = true

-- the words of a line: what stands between spaces, of which there may be more than one
abbrev pub words : List ℕ → List (List ℕ)
words line = filter is_word (slice_split (λ b. b == 32) line)

-- of all words, the first one and the others; or no word, where there is none
abbrev pub TakesWord : List ℕ → List (List ℕ) → List (List ℕ) → Type 0
TakesWord [] all others = (all ≡ []) × (others ≡ [])
TakesWord (b ∷ word) all others = all ≡ (b ∷ word) ∷ others
