-- ClustersAndColumns, its first half: the clusters of a text.
use Rattle.std.specs.Prelude.{ℕ, true, List, map, length}
pub use Rattle.unicode_tables.specs.Alone.{is_plain}
use Rattle.unicode_segmentation.specs.Grapheme.{graphemes}
use Rattle.paragraphs.specs.Text.{code_points}

-- the extended grapheme clusters of a text by itself, each as its bytes
abbrev pub clusters : List ℕ → List (List ℕ)
clusters text = graphemes true text

-- the same, each as its code points
abbrev pub cluster_code_points : List ℕ → List (List ℕ)
cluster_code_points text = map code_points (clusters text)

-- how many code points each has
abbrev pub cluster_sizes : List ℕ → List ℕ
cluster_sizes text = map length (cluster_code_points text)
