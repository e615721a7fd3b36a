-- A line must end after a paragraph's last cluster.
use Rattle.std.proofs.Common.{◌≡◌, ℕ, zero, suc, ◌+◌, ◌-◌, ◌<◌, List, [], ◌∷◌, ◌++◌, map, length, drop, get_or, sum, refl, ap, ◌∙◌, inl, inr, arith}
use Rattle.std.proofs.lemmas.Bool.Decides.{eqb_tells}
use Rattle.std.proofs.lemmas.List.{length-drop, length-map, nil_from_length, get_or-drop}
use Rattle.std.proofs.lemmas.List.Elements.{All-head, All-tail}
use Rattle.std.proofs.lemmas.List.Sums.{sum_by-cons}
use Rattle.std.specs.List.{All}
use Rattle.unicode_tables.specs.Tables.{TableValues}
use Rattle.paragraphs.specs.Text.{code_points}
use Rattle.paragraphs.specs.Clusters.{clusters, cluster_code_points, cluster_sizes}
use Rattle.line_break.specs.declared.cluster.Cluster.{Cluster}
use Rattle.line_break.specs.declared.status.Break.{Break}
use Rattle.line_break.specs.declared.status.Break.TheVariants.{Must}
use Rattle.line_break.specs.Items.{Item, point_of}
use Rattle.line_break.specs.Statuses.{statuses_behind, breaks}
use Rattle.line_break.specs.LineClusters.{measured_all, line_clusters}
use Rattle.line_break.specs.Lines.{status_at}
use Rattle.line_break.proofs.Joining.{length-line_clusters}
use Rattle.line_break.proofs.Measuring.{length-breaks}

last-behind : (front later : List Item) (i : ℕ) → i + 1 ≡ length later → get_or (statuses_behind front later) i Must ≡ Must
last-behind front [] i e = absurd (omega arith)
last-behind front (p ∷ []) zero e = refl
last-behind front (p ∷ []) (suc i) e = absurd (omega arith)
last-behind front (p ∷ q ∷ later) zero e = absurd (omega arith)
last-behind front (p ∷ q ∷ later) (suc i) e = last-behind (front ++ p ∷ []) (q ∷ later) i (omega arith)

sum-some : (sizes : List ℕ) → All (λ size. 0 < size) sizes → 0 < length sizes → 0 < sum sizes
sum-some [] some more = absurd (omega arith)
sum-some (n ∷ sizes) some more =
    let first = All-head (λ size. 0 < size) n sizes some in
    let whole = sum_by-cons (λ (n : ℕ). n) n sizes in
    omega arith

module _ (tables : TableValues) where
  last-break : (text : List ℕ) (i : ℕ) → i + 1 ≡ length (code_points text) → get_or (breaks tables text) i Must ≡ Must
  unfolding breaks
  last-break text i e =
      let n = length-map (code_points text) (point_of tables) in
      last-behind [] (map (point_of tables) (code_points text)) i (omega arith)

  last-measured : (cs : List (List ℕ)) (statuses : List Break) (i last : ℕ) → i + 1 ≡ length cs → last + 1 ≡ length statuses → All (λ n. 0 < n) (map length cs)
      → sum (map length cs) ≡ length statuses → get_or statuses last Must ≡ Must → get_or (map (λ (c : Cluster). c.after) (measured_all tables cs statuses)) i Must ≡ Must
  last-measured [] statuses i last e f some all must = absurd (omega arith)
  last-measured (c ∷ []) statuses zero last e f some all must =
      let one = sum_by-cons (λ (n : ℕ). n) (length c) [] in
      let same : length c - 1 ≡ last = omega arith in
      ap (λ (k : ℕ). get_or statuses k Must) same ∙ must
  last-measured (c ∷ []) statuses (suc i) last e f some all must = absurd (omega arith)
  last-measured (c ∷ d ∷ cs) statuses zero last e f some all must = absurd (omega arith)
  last-measured (c ∷ d ∷ cs) statuses (suc i) last e f some all must =
      let later = All-tail (λ n. 0 < n) (length c) (map length (d ∷ cs)) some in
      let first = sum_by-cons (λ (n : ℕ). n) (length c) (map length (d ∷ cs)) in
      let second = sum_by-cons (λ (n : ℕ). n) (length d) (map length cs) in
      let positive = All-head (λ n. 0 < n) (length d) (map length cs) later in
      let left = length-drop (length c) statuses in
      let at : length c + (last - length c) ≡ last = omega arith in
      last-measured (d ∷ cs) (drop (length c) statuses) i (last - length c) (omega arith) (omega arith) later (omega arith)
      (get_or-drop (length c) statuses (last - length c) Must ∙ ap (λ (k : ℕ). get_or statuses k Must) at ∙ must)

  must-last : (text : List ℕ) → All (λ size. 0 < size) (cluster_sizes text) → sum (cluster_sizes text) ≡ length (code_points text) → (i : ℕ) → i + 1 ≡ length (line_clusters tables text) → get_or (map (λ (c : Cluster). c.after) (line_clusters tables text)) i Must ≡ Must
  unfolding line_clusters
  must-last text some all i e =
      let n = length-line_clusters tables text in
      let m = length-map (clusters text) code_points in
      let b = length-breaks tables text in
      let positive = sum-some (cluster_sizes text) some (let k = length-map (cluster_code_points text) length in omega arith) in
      last-measured (cluster_code_points text) (breaks tables text) i (length (code_points text) - 1) (omega arith) (omega arith) some (omega arith)
      (last-break text (length (code_points text) - 1) (omega arith))

  pub must-end : (text : List ℕ) → All (λ size. 0 < size) (cluster_sizes text) → sum (cluster_sizes text) ≡ length (code_points text)
      → status_at (line_clusters tables text) (length (line_clusters tables text)) ≡ Must
  must-end text some all =
      elim (eqb_tells (length (line_clusters tables text)) 0) [
        | inl none ↦ ap (λ (cl : List Cluster). status_at cl (length cl)) (nil_from_length (line_clusters tables text) none.1)
        | inr more ↦ must-last text some all (length (line_clusters tables text) - 1) (let ne = more.1 in omega arith)
      ]
