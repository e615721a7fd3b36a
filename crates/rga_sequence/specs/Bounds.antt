-- Lower bounds of the identifiers in neighbouring blocks.
use Rattle.std.specs.Prelude.{◌≡◌, ◌/◌, ◌<◌, ℕ, true, List, [], length, get_or}
use Rattle.bg_types.specs.Identifier.{Identifier}
use Rattle.rga_tree.specs.declared.element.Element.{Element}
use Rattle.rga_sequence.specs.Blocks.{none_below}

-- entry g, if there is one, isn't greater than an identifier of blocks 32 g to 32 g + 31
abbrev pub AreBounds : List Identifier → List (List Element) → Type 0
AreBounds ms xs = (p : ℕ) (d : Identifier) → p / 32 < length ms → none_below (get_or ms (p / 32) d) (get_or xs p []) ≡ true

-- the same of the first n blocks
abbrev pub AreBoundsBelow : ℕ → List Identifier → List (List Element) → Type 0
AreBoundsBelow n ms xs = (p : ℕ) (d : Identifier) → p < n → p / 32 < length ms → none_below (get_or ms (p / 32) d) (get_or xs p []) ≡ true
