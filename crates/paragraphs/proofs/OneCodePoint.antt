-- The first code point of a text, and a text of one.
use Rattle.std.proofs.Common.{◌≡◌, ℕ, ◌==◌, true, List, [], ◌∷◌, ◌++◌, length, drop, inl, inr, ap, sym, ◌∙◌}
use Rattle.std.proofs.lemmas.Bool.Decides.{eqb_tells}
use Rattle.std.proofs.lemmas.List.{nil_from_length}
use Rattle.std.proofs.lemmas.Str.{chars-nil, chars_past_char}
use Rattle.std.specs.Prelude.{encode_utf8}
use Rattle.std.specs.Str.{IsUtf8}
use Rattle.paragraphs.specs.Text.{code_points}

-- what is empty by its length
pub nil-from-test : (bytes : List ℕ) → true ≡ (length bytes == 0) → bytes ≡ []
nil-from-test bytes h = elim (eqb_tells (length bytes) 0) [ inl e ↦ nil_from_length bytes e.1 | inr e ↦ absurd (let f = h ∙ e.0 in cc) ]

-- after its first code point nothing is left
pub one-code-point : (bytes rest : List ℕ) (c : ℕ) → IsUtf8 bytes → bytes ≡ encode_utf8 c ++ rest → true ≡ (length rest == 0) → code_points bytes ≡ c ∷ []
one-code-point bytes rest c u e h =
    chars_past_char bytes rest c u e ∙ ap (λ r. c ∷ code_points r) (nil-from-test rest h) ∙ ap (λ cs. c ∷ cs) chars-nil

-- the first code point
pub code-points-first : (bytes rest : List ℕ) (c : ℕ) → IsUtf8 bytes → bytes ≡ encode_utf8 c ++ rest → code_points bytes ≡ c ∷ drop 1 (code_points bytes)
code-points-first bytes rest c u e = let points = chars_past_char bytes rest c u e in points ∙ ap (λ r. c ∷ r) (sym (ap (drop 1) points))
