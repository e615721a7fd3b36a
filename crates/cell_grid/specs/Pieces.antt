-- Pieces of a line: runs of clusters that are alike in shape and level, in the order of the text.
use Rattle.std.specs.Prelude.{ℕ, List, map, replicate, slice_index_or}
use Rattle.std.specs.List.{flat_map, range_with_len}
use Rattle.reorder.specs.VisualList.{visual_list}
use Rattle.paragraphs.specs.declared.span.Span.{Span}
use Rattle.cell_grid.specs.declared.cluster_run.ClusterRun.{ClusterRun}
use Rattle.cell_grid.specs.Runs.{run_span, span_after, cluster_count}
use Rattle.cell_grid.specs.KeptSpans.{no_span}

-- where the clusters of a run stand, in the order of the text, their levels and their columns
abbrev pub run_spans : ClusterRun → List Span
run_spans r = map (λ k. span_after k (run_span r)) (range_with_len 0 (cluster_count r))

abbrev pub run_levels : ClusterRun → List ℕ
run_levels r = replicate (cluster_count r) r.level

abbrev pub run_widths : ClusterRun → List ℕ
run_widths r = replicate (cluster_count r) r.columns

-- the same of all pieces
abbrev pub spans_of : List ClusterRun → List Span
spans_of pieces = flat_map run_spans pieces

abbrev pub levels_of : List ClusterRun → List ℕ
levels_of pieces = flat_map run_levels pieces

abbrev pub columns_of : List ClusterRun → List ℕ
columns_of pieces = flat_map run_widths pieces

-- the piece with this number
abbrev pub no_piece : ClusterRun
no_piece = record { span = no_span; level = 0; columns = 0 }

abbrev pub piece_at : List ClusterRun → ℕ → ClusterRun
piece_at pieces k = slice_index_or pieces k no_piece

-- the pieces from left to right: UAX #9, L2, by their own levels
abbrev pub arranged : List ClusterRun → List ClusterRun
arranged pieces = map (piece_at pieces) (visual_list (map (λ (r : ClusterRun). r.level) pieces))
