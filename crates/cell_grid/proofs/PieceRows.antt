-- The row of a line's pieces.
use Rattle.std.proofs.Common.{◌≡◌, ℕ, ◌+◌, ◌≤◌, List, [], ◌∷◌, length, refl, sym, ap, ◌∙◌, arith}
use Rattle.std.proofs.lemmas.List.Elements.{All-same}
use Rattle.std.proofs.lemmas.List.Sorted.{All-permutation, sum_by-IsPermutation}
use Rattle.std.proofs.lemmas.List.Sums.{sum_by-cons}
use Rattle.std.specs.List.{All}
use Rattle.reorder.specs.VisualList.{visual_list}
use Rattle.paragraphs.specs.declared.span.Span.{Span}
use Rattle.cell_grid.specs.declared.cluster_run.ClusterRun.{ClusterRun}
use Rattle.cell_grid.specs.Cells.{total}
use Rattle.cell_grid.specs.LawsBelow.{LawsBelow}
use Rattle.cell_grid.specs.Pieces.{spans_of, levels_of, columns_of, arranged}
use Rattle.cell_grid.specs.Rows.{entries_from, start_column, row_with}
use Rattle.cell_grid.specs.Runs.{cluster_count, run_columns, runs_columns, runs_entries, IsInReach, AreKept}
use Rattle.cell_grid.specs.Spans.{extent}
use Rattle.cell_grid.proofs.Celled.{row_by}
use Rattle.cell_grid.proofs.PieceEntries.{counts, length-spans, arranged-permutes, entries-arranged}
use Rattle.cell_grid.proofs.RunEntries.{length-first, follow-runs, total-runs}
use Rattle.cell_grid.proofs.Sides.{same_follow}

length-runs : (column : ℕ) (runs : List ClusterRun) → length (runs_entries column runs) ≡ counts runs
length-runs column [] = refl
length-runs column (r ∷ later) =
    length-first column r later ∙ ap (λ n. cluster_count r + n) (length-runs (column + run_columns r) later) ∙ sym (sum_by-cons cluster_count r later)

module _ (below : LawsBelow) (ps runs : List ClusterRun) (is : runs ≡ arranged ps) where
  -- as many clusters and columns as the pieces
  count-arranged : counts runs ≡ counts ps
  count-arranged = ap counts is ∙ sum_by-IsPermutation cluster_count ps (arranged ps) (arranged-permutes below ps)

  columns-arranged : runs_columns runs ≡ runs_columns ps
  columns-arranged = ap runs_columns is ∙ sum_by-IsPermutation run_columns ps (arranged ps) (arranged-permutes below ps)

  pub kept-arranged : (width start count : ℕ) → All IsInReach ps → start + runs_columns ps ≤ width → width ≤ 500 → count ≡ length (spans_of ps) → count ≤ 4_000_000
      → AreKept width start count runs
  kept-arranged width start count reach fits wide many most =
      let n = length-runs start runs in
      let m = count-arranged in
      let l = length-spans ps in
      let t = total-runs start runs in
      let w = columns-arranged in
      let end : start + runs_columns runs ≡ start + total (runs_entries start runs) = omega arith in
      record {
        wide = omega arith;
        stand = record {
          follow = same_follow start (runs_entries start runs) _ _ end (follow-runs start runs);
          fits = omega arith;
          count = omega arith;
        };
        reach = All-same IsInReach runs (arranged ps) is (All-permutation IsInReach ps (arranged ps) (arranged-permutes below ps) reach);
        counted = omega arith;
      }

  pub row-arranged : (width start level : ℕ) (whole : Span) → whole ≡ extent (spans_of ps) → start ≡ start_column width level (columns_of ps)
      → row_by width start whole.first_place whole.end_place level (runs_entries start runs) ≡ row_with width level (spans_of ps) (levels_of ps) (columns_of ps)
  row-arranged width start level whole at begun =
      let order = visual_list (levels_of ps) in
      ap (λ l. row_by width start whole.first_place whole.end_place level (runs_entries start l)) is
      ∙ ap (row_by width start whole.first_place whole.end_place level) (sym (entries-arranged below ps start))
      ∙ ap (λ n. row_by width n whole.first_place whole.end_place level (entries_from (spans_of ps) (levels_of ps) (columns_of ps) n (visual_list (levels_of ps)))) begun
      ∙ ap (λ (s : Span). row_by width (start_column width level (columns_of ps)) s.first_place s.end_place level
      (entries_from (spans_of ps) (levels_of ps) (columns_of ps) (start_column width level (columns_of ps)) (visual_list (levels_of ps)))) at
