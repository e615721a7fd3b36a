-- What is left of what is kept, paragraph by paragraph.
use Rattle.std.specs.Prelude.{ℕ, ◌+◌, ◌%◌, ◌==◌, ◌&&◌, ◌||◌, not, Bool, nat_le, nat_lt, cond, List, [], ◌∷◌, Option, None}
use Rattle.text_buffer.specs.declared.spared.Spared.{Spared}

-- whether what is kept of the paragraph with this number stays: of those from `from` up to `to`, and of the others but where the
-- number leaves `turn` when it is divided by `step`
abbrev pub stays : Spared → ℕ → Bool
stays s number = (nat_le s.from number && nat_lt number s.to) || not ((number % s.step) == s.turn)

-- what is left of what was kept, of paragraphs of which the first has this number
abbrev pub left_of : {K : Type 0} → Spared → (first : ℕ) → List (Option K) → List (Option K)
left_of s first [] = []
left_of s first (k ∷ ks) = cond (stays s first) k None ∷ left_of s (first + 1) ks
