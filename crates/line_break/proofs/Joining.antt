-- The lines of some clusters join to them.
use Rattle.std.proofs.Common.{◌≡◌, ℕ, zero, suc, ◌+◌, ◌≤◌, List, [], ◌∷◌, ◌++◌, length, drop, slice_range, refl, sym, ap, ◌∙◌, arith}
use Rattle.std.proofs.lemmas.List.{length-drop, length-map, nil_from_length}
use Rattle.std.proofs.lemmas.List.Folds.{drop_split}
use Rattle.std.proofs.Math.ListN.{drop_of_length-le}
use Rattle.std.specs.List.{flat_map}
use Rattle.unicode_tables.specs.Tables.{TableValues}
use Rattle.paragraphs.specs.Text.{code_points}
use Rattle.paragraphs.specs.Clusters.{clusters, cluster_code_points}
use Rattle.line_break.specs.declared.cluster.Cluster.{Cluster}
use Rattle.line_break.specs.declared.line.Line.{Line}
use Rattle.line_break.specs.declared.status.Break.{Break}
use Rattle.line_break.specs.Statuses.{breaks}
use Rattle.line_break.specs.LineClusters.{measured_all, line_clusters}
use Rattle.line_break.specs.Lines.{line_len, lines_from, lines_of, lines}
use Rattle.line_break.proofs.LinesLeft.{line_len-within}

module _ {X : Type 0} (xs : List X) (w : ℕ) where
  part : Line → List X
  part line = slice_range xs line.start line.end

  joined-from : (n s : ℕ) (cl : List Cluster) → s + length cl ≡ length xs → length cl ≤ n → flat_map part (lines_from n w s cl) ≡ drop s xs
  unfolding lines_from part
  joined-from zero s cl all few = sym (drop_of_length-le xs (omega arith))
  joined-from (suc n) s [] all few = sym (drop_of_length-le xs (omega arith))
  joined-from (suc n) s (c ∷ cl) all few =
      let len = line_len w (c ∷ cl) in
      let within = line_len-within w (c ∷ cl) (omega arith) in
      let left = length-drop len (c ∷ cl) in
      ap (λ t. slice_range xs s (s + len) ++ t) (joined-from n (s + len) (drop len (c ∷ cl)) (omega arith) (omega arith))
      ∙ sym (drop_split xs s (s + len) (omega arith))

  pub joined-lines_of : (cl : List Cluster) → length cl ≡ length xs → flat_map (λ (line : Line). slice_range xs line.start line.end) (lines_of w cl) ≡ xs
  unfolding lines_of part
  joined-lines_of [] same = sym (nil_from_length xs (sym same))
  joined-lines_of (c ∷ cl) same = joined-from (length (c ∷ cl)) 0 (c ∷ cl) (omega arith) (omega arith)

length-measured_all : (tables : TableValues) (cs : List (List ℕ)) (statuses : List Break) → length (measured_all tables cs statuses) ≡ length cs
length-measured_all tables [] statuses = refl
length-measured_all tables (c ∷ cs) statuses = let later = length-measured_all tables cs (drop (length c) statuses) in omega arith

-- one for each cluster of the text
pub length-line_clusters : (tables : TableValues) (text : List ℕ) → length (line_clusters tables text) ≡ length (clusters text)
unfolding line_clusters
length-line_clusters tables text =
    length-measured_all tables (cluster_code_points text) (breaks tables text) ∙ length-map (clusters text) code_points

pub joined-lines : (tables : TableValues) (text : List ℕ) (w : ℕ)
    → flat_map (λ (line : Line). slice_range (clusters text) line.start line.end) (lines tables text w) ≡ clusters text
joined-lines tables text w = joined-lines_of (clusters text) w (line_clusters tables text) (length-line_clusters tables text)
