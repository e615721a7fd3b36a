-- The elements of the blocks of a row, and where identifiers are at home in it.
use Rattle.std.specs.Prelude.{◌≡◌, ◌<◌, ℕ, List, [], ◌∷◌, Option, Some, None, Bool, true, ◌&&◌, length, nat_lt, map as each, if◌then◌else◌}
use Rattle.bg_types.specs.Identifier.{Identifier}
use Rattle.rga_tree.specs.declared.element.Element.{Element}
pub use Rattle.rga_tree.specs.Row.{has}
use Rattle.rga_sequence.specs.declared.block.Block.{Block}

abbrev pub items_of : List Block → List (List Element)
items_of bs = each (λ b. b.elements.items) bs

abbrev pub numbers_of : List Block → List ℕ
numbers_of bs = each (λ b. b.number) bs

-- the number of the block that has the identifier
abbrev pub home_of : List (List Element) → List ℕ → Identifier → Option ℕ
home_of [] ns q = None
home_of (x ∷ xs) [] q = None
home_of (x ∷ xs) (n ∷ ns) q = if has q x then Some n else home_of xs ns q

-- each block has at least 256 elements
abbrev pub are_halves : List (List Element) → Bool
are_halves [] = true
are_halves (x ∷ xs) = nat_lt 255 (length x) && are_halves xs

-- each block but a lone one is at least half full
abbrev pub AreHalfFull : List (List Element) → Type 0
AreHalfFull xs = 1 < length xs → are_halves xs ≡ true
