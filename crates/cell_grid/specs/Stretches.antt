-- Stretches of a line: pieces of one level that follow each other, which L2 moves as one.
use Rattle.std.specs.Prelude.{◌≡◌, ℕ, ◌-◌, ◌<◌, ◌≤◌, List, map, length, take, slice_index_or}
use Rattle.std.specs.List.{All}
use Rattle.reorder.specs.Pieces.{LevelPiece, count_of, levels_of}
use Rattle.cell_grid.specs.declared.cluster_run.ClusterRun.{ClusterRun}
use Rattle.cell_grid.specs.declared.stretch.Stretch.{Stretch}

-- a stretch as `reorder` has it: how many pieces, and their level
abbrev pub level_piece : Stretch → LevelPiece
level_piece s = record { count = s.end - s.first; level = s.level }

-- the stretch with this number
abbrev pub stretch_at : List Stretch → ℕ → Stretch
stretch_at stretches k = slice_index_or stretches k (record { first = 0; end = 0; level = 0 })

-- a stretch has some of so many pieces
pub record IsAmong (count : ℕ) (s : Stretch) : Type 0 where
  pub some : s.first < s.end
  pub within : s.end ≤ count

-- the stretches of these pieces, one after the other
pub record AreStretches (pieces : List ClusterRun) (stretches : List Stretch) : Type 0 where
  pub among : All (IsAmong (length pieces)) stretches
  pub follow : (k : ℕ) → k < length stretches → (stretch_at stretches k).first ≡ count_of (take k (map level_piece stretches))
  pub levels_alike : levels_of (map level_piece stretches) ≡ map (λ (r : ClusterRun). r.level) pieces
