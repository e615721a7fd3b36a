-- Texts of no character and of one.
use Rattle.std.proofs.Common.{◌≡◌, ℕ, List, [], ◌∷◌, None, Some, length, slice_get, map, refl, ap, arith, encode_utf8_all}
use Rattle.bg_types.specs.Identifier.{Identifier}
use Rattle.bg_types.specs.OperationSet.{Node, OperationSet}
use Rattle.rga_tree.specs.TextOf.{text, visible}

pub none_of : {X : Type 0} (xs : List X) → length xs ≡ 0 → xs ≡ []
none_of [] empty = refl
none_of (x ∷ xs) empty = absurd (omega (arith, empty))

pub bytes_of_none : (s : OperationSet) → length (visible s) ≡ 0 → encode_utf8_all (text s) ≡ []
bytes_of_none s empty = ap (λ (es : List (Identifier × Node)). encode_utf8_all (map (λ e. e.1.ch) es)) (none_of (visible s) empty)

-- a text of one character is its first one
pub one_of : (chs : List ℕ) (ch : ℕ) → Some ch ≡ slice_get chs 0 → length chs ≡ 1 → chs ≡ ch ∷ []
one_of [] ch first one = absurd (omega (arith, one))
one_of (x ∷ []) ch first one = let same : x ≡ ch = cc in ap (λ (y : ℕ). y ∷ []) same
one_of (x ∷ y ∷ chs) ch first one = absurd (omega (arith, one))

pub first_of : (chs : List ℕ) → None ≡ slice_get chs 0 → length chs ≡ 1 → ⊥
first_of [] first one = omega (arith, one)
first_of (x ∷ chs) first one = cc
