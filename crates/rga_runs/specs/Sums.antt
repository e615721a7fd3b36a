-- How many characters of neighbouring blocks are visible.
use Rattle.std.specs.Prelude.{◌≡◌, ◌+◌, ◌*◌, ◌<◌, ◌≤◌, ℕ, List, length, take, drop, get_or}
use Rattle.rga_runs.specs.declared.stretch.Stretch.{Stretch}
use Rattle.rga_runs.specs.Stretches.{visible_in}
use Rattle.rga_runs.specs.Blocks.{row_of}

-- how many characters of n blocks, from one on, are visible
abbrev pub visible_from : List (List Stretch) → ℕ → ℕ → ℕ
visible_from xs m n = visible_in (row_of (take n (drop m xs)))

-- entry g is that of blocks 32 g to 32 g + 31, which are all there
pub record AreSums (ss : List ℕ) (xs : List (List Stretch)) : Type 0 where
  pub whole : 32 * length ss ≤ length xs
  pub sums : (g d : ℕ) → g < length ss → get_or ss g d ≡ visible_from xs (32 * g) 32

-- the same, but a block more was made, and each entry behind entry n is that of the blocks one further on, so that entry n and those
-- that came are of 33 blocks
pub record AreSumsBut (n came : ℕ) (ss : List ℕ) (xs : List (List Stretch)) : Type 0 where
  pub whole : 32 * length ss < length xs
  pub before : (g d : ℕ) → g < n → g < length ss → get_or ss g d ≡ visible_from xs (32 * g) 32
  pub there : (d : ℕ) → n < length ss → get_or ss n d + came ≡ visible_from xs (32 * n) 33
  pub behind : (g d : ℕ) → n < g → g < length ss → get_or ss g d ≡ visible_from xs (32 * g + 1) 32
