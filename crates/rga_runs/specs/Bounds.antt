-- Lower bounds of the identifiers with which the stretches of neighbouring blocks begin.
use Rattle.std.specs.Prelude.{◌≡◌, ◌*◌, ◌/◌, ◌%◌, ◌<◌, ℕ, true, List, [], length, get_or}
use Rattle.bg_types.specs.Identifier.{Identifier}
use Rattle.rga_runs.specs.declared.stretch.Stretch.{Stretch}
use Rattle.rga_runs.specs.Blocks.{none_below}

-- no stretch of blocks 32 g to 32 g + 31 begins with a lesser identifier than entry g, if there is one
abbrev pub AreBounds : List Identifier → List (List Stretch) → Type 0
AreBounds ms xs = (p : ℕ) (d : Identifier) → p / 32 < length ms → none_below (get_or ms (p / 32) d) (get_or xs p []) ≡ true

-- the same of the first n blocks
abbrev pub AreBoundsBelow : ℕ → List Identifier → List (List Stretch) → Type 0
AreBoundsBelow n ms xs = (p : ℕ) (d : Identifier) → p < n → p / 32 < length ms → none_below (get_or ms (p / 32) d) (get_or xs p []) ≡ true

-- the same, but for the first block of those of each entry from n on
pub record AreBoundsBut (n : ℕ) (ms : List Identifier) (xs : List (List Stretch)) : Type 0 where
  pub inside : (p : ℕ) (d : Identifier) → p / 32 < length ms → 0 < p % 32 → none_below (get_or ms (p / 32) d) (get_or xs p []) ≡ true
  pub front : (g : ℕ) (d : Identifier) → g < n → g < length ms → none_below (get_or ms g d) (get_or xs (32 * g) []) ≡ true
