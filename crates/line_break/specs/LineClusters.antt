-- The clusters of a paragraph as lines see them.
use Rattle.std.specs.Prelude.{ℕ, Bool, ◌-◌, ◌==◌, ◌||◌, List, [], ◌∷◌, drop, length, slice_index_or}
use Rattle.std.specs.List.{list_all}
use Rattle.bg_types.specs.declared.class.Lb.TheVariants.{Sp}
use Rattle.unicode_tables.specs.Tables.{TableValues, lb_of}
use Rattle.paragraphs.specs.Clusters.{cluster_code_points}
use Rattle.paragraphs.specs.Columns.{columns_of}
use Rattle.line_break.specs.declared.cluster.Cluster.{Cluster}
use Rattle.line_break.specs.declared.status.Break.{Break}
use Rattle.line_break.specs.declared.status.Break.TheVariants.{Must}
use Rattle.line_break.specs.Classes.{one_of}
use Rattle.line_break.specs.Statuses.{breaks}

-- a space cluster has only code points of break class SP
abbrev pub is_space : TableValues → List ℕ → Bool
is_space tables cluster = list_all (λ c. one_of (Sp ∷ []) (lb_of tables c)) cluster

-- a cluster of these code points, with the status after its last one, where these are the statuses from its first one on
abbrev pub measured : TableValues → List ℕ → List Break → Cluster
measured tables cluster statuses = record {
  columns = columns_of tables cluster;
  is_space = is_space tables cluster;
  after = slice_index_or statuses (length cluster - 1) Must;
}

abbrev pub measured_all : TableValues → List (List ℕ) → List Break → List Cluster
measured_all tables [] statuses = []
measured_all tables (cluster ∷ later) statuses = measured tables cluster statuses ∷ measured_all tables later (drop (length cluster) statuses)

-- the clusters of a paragraph's text
unfoldable pub line_clusters : TableValues → List ℕ → List Cluster
line_clusters tables text = measured_all tables (cluster_code_points text) (breaks tables text)

-- a cluster that hangs where it stands at a line's end
abbrev pub hangs : Cluster → Bool
hangs cluster = cluster.is_space || cluster.columns == 0
