-- How many clusters there are.
use Rattle.std.proofs.Common.{◌≡◌, ℕ, ◌<◌, ◌≤◌, List, [], ◌∷◌, map, length, All, ap, ◌∙◌, arith}
use Rattle.std.proofs.lemmas.List.{length-map}
use Rattle.std.proofs.lemmas.List.Elements.{All-head, All-tail}
use Rattle.std.specs.Str.{IsUtf8}
use Rattle.unicode_tables.specs.Tables.{TableValues}
use Rattle.paragraphs.specs.Text.{code_points}
use Rattle.paragraphs.specs.Clusters.{clusters, cluster_sizes}
use Rattle.line_break.specs.LineClusters.{line_clusters}
use Rattle.cell_grid.specs.LawsBelow.{LawsBelow}
use Rattle.cell_grid.specs.Spans.{spans}
use Rattle.cell_grid.specs.Outline.{own_columns}
use Rattle.cell_grid.proofs.Standing.{bytes, bytes-concat, length-spans}

pub length-spans_of : (text : List ℕ) → length (spans text) ≡ length (clusters text)
length-spans_of text = length-spans 0 0 (clusters text)

pub length-sizes_of : (text : List ℕ) → length (cluster_sizes text) ≡ length (clusters text)
length-sizes_of text = length-map (map code_points (clusters text)) length ∙ length-map (clusters text) code_points

pub length-own_columns : (below : LawsBelow) (tables : TableValues) (text : List ℕ) → length (own_columns tables text) ≡ length (clusters text)
length-own_columns below tables text = length-map (line_clusters tables text) (λ c. c.columns) ∙ below.each_measured tables text

few : (cs : List (List ℕ)) → All (λ (c : List ℕ). 0 < length c) cs → length cs ≤ bytes cs
few [] some = omega arith
few (c ∷ cs) some =
    let first = All-head (λ (x : List ℕ). 0 < length x) c cs some in
    let later = few cs (All-tail (λ (x : List ℕ). 0 < length x) c cs some) in
    omega arith

-- no more clusters than bytes
pub few-clusters : (below : LawsBelow) (text : List ℕ) → IsUtf8 text → length (clusters text) ≤ length text
few-clusters below text u =
    let a = few (clusters text) (below.clusters_some text) in
    let b = ap length (below.clusters_join text u) in
    let d = bytes-concat (clusters text) in
    omega arith
