-- How a run is cut into pieces: by the levels of its clusters, and where columns hang.
use Rattle.std.specs.Prelude.{◌≡◌, ℕ, ◌*◌, ◌<◌, ◌≤◌, List, ◌++◌, drop, replicate}
use Rattle.reorder.specs.LineLevels.{group_firsts}
use Rattle.line_break.specs.declared.run.ShapeRun.{ShapeRun}
use Rattle.line_break.specs.Runs.{sizes_of}
use Rattle.line_break.specs.Runs.{spans_of as shape_spans, columns_of as shape_columns}
use Rattle.cell_grid.specs.declared.cluster_run.ClusterRun.{ClusterRun}
use Rattle.cell_grid.specs.declared.piece.Fitting.{Fitting}
use Rattle.cell_grid.specs.Hanging.{hung}
use Rattle.cell_grid.specs.Parts.{front}
use Rattle.cell_grid.specs.Pieces.{run_spans, run_levels, run_widths}
use Rattle.cell_grid.specs.Runs.{cluster_count, IsInReach}

-- of so many clusters, each of so many columns, some of the first are alike in the columns that they have in this room
pub record AreFitting (count columns room : ℕ) (f : Fitting) : Type 0 where
  pub some : 0 < f.count
  pub most : f.count ≤ count
  pub hung : (later : List ℕ) → hung room (replicate f.count columns ++ later) ≡ replicate f.count f.columns ++ hung f.room later

-- a piece has some of the first clusters of a run, at most so many, whose code points begin with these levels, and so much room is left behind it
pub record IsFirstPiece (run : ShapeRun) (most : ℕ) (levels : List ℕ) (room : ℕ) (piece : ClusterRun) (left : ℕ) : Type 0 where
  pub within : cluster_count piece ≤ most
  pub spans : run_spans piece ≡ shape_spans (front (cluster_count piece) run)
  pub levels_alike : (later : List ℕ) → group_firsts (sizes_of (front (cluster_count piece) run) ++ later) levels
      ≡ run_levels piece ++ group_firsts later (drop (cluster_count piece * run.points) levels)
  pub columns : (later : List ℕ) → hung room (shape_columns (front (cluster_count piece) run) ++ later) ≡ run_widths piece ++ hung left later
  pub reach : IsInReach piece
