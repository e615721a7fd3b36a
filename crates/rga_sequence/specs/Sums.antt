-- How many elements of neighbouring blocks are visible.
use Rattle.std.specs.Prelude.{◌≡◌, ◌*◌, ◌<◌, ◌≤◌, ℕ, List, length, take, drop, get_or}
use Rattle.rga_tree.specs.declared.element.Element.{Element}
use Rattle.rga_sequence.specs.Blocks.{seen_all}

-- how many elements of blocks 32 g to 32 g + 31 are visible
abbrev pub seen_among : List (List Element) → ℕ → ℕ
seen_among xs g = seen_all (take 32 (drop (32 * g) xs))

-- each of the first n entries, as far as there are as many, says this of its blocks
abbrev pub AreSumsBelow : ℕ → List ℕ → List (List Element) → Type 0
AreSumsBelow n ss xs = (g d : ℕ) → g < n → g < length ss → get_or ss g d ≡ seen_among xs g

-- each entry does, and none is of fewer than 32 blocks
pub record AreSums (ss : List ℕ) (xs : List (List Element)) : Type 0 where
  pub whole : 32 * length ss ≤ length xs
  pub sums : (g d : ℕ) → g < length ss → get_or ss g d ≡ seen_among xs g
