-- The lines of some clusters follow one another.
use Rattle.std.proofs.Common.{◌≡◌, ℕ, zero, suc, ◌+◌, ◌<◌, ◌≤◌, List, [], ◌∷◌, length, drop, refl, arith}
use Rattle.std.proofs.lemmas.List.{length-drop}
use Rattle.unicode_tables.specs.Tables.{TableValues}
use Rattle.paragraphs.specs.Clusters.{clusters}
use Rattle.line_break.specs.declared.cluster.Cluster.{Cluster}
use Rattle.line_break.specs.LineClusters.{line_clusters}
use Rattle.line_break.specs.Lines.{line_len, lines_from, lines_of, lines}
use Rattle.line_break.specs.Ranges.{Follow}
use Rattle.line_break.proofs.Joining.{length-line_clusters}
use Rattle.line_break.proofs.LinesLeft.{line_len-within}

module _ (w to : ℕ) where
  follow-from : (n s : ℕ) (cl : List Cluster) → s + length cl ≡ to → length cl ≤ n → Follow s (lines_from n w s cl) to
  unfolding lines_from
  follow-from zero s cl all few = omega arith
  follow-from (suc n) s [] all few = omega arith
  follow-from (suc n) s (c ∷ cl) all few =
      let len = line_len w (c ∷ cl) in
      let within = line_len-within w (c ∷ cl) (omega arith) in
      let left = length-drop len (c ∷ cl) in
      (refl, omega arith, follow-from n (s + len) (drop len (c ∷ cl)) (omega arith) (omega arith))

  follow-lines_of : (cl : List Cluster) → length cl ≡ to → 0 < to → Follow 0 (lines_of w cl) to
  unfolding lines_of
  follow-lines_of [] same some = absurd (omega arith)
  follow-lines_of (c ∷ cl) same some = follow-from (length (c ∷ cl)) 0 (c ∷ cl) (omega arith) (omega arith)

pub follow-lines : (tables : TableValues) (text : List ℕ) (w : ℕ) → 0 < length (clusters text)
    → Follow 0 (lines tables text w) (length (clusters text))
follow-lines tables text w some =
    follow-lines_of w (length (clusters text)) (line_clusters tables text) (length-line_clusters tables text) some
