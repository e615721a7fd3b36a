-- Where clusters are read out of the runs.
use Rattle.std.specs.Prelude.{◌≡◌, ℕ, ◌<◌, ◌≤◌, false, List, length, map, take, sum_by, slice_index, slice_index_or}
use Rattle.std.specs.List.{flat_map}
use Rattle.unicode_tables.specs.Tables.{TableValues}
use Rattle.paragraphs.specs.Spans.{spans}
use Rattle.line_break.specs.declared.cluster.Cluster.{Cluster}
use Rattle.line_break.specs.declared.cursor.Cursor.{Cursor}
use Rattle.line_break.specs.declared.run.ShapeRun.{ShapeRun}
use Rattle.line_break.specs.LineClusters.{line_clusters}
use Rattle.line_break.specs.Runs.{columns_of, spans_of}

-- these are the runs of the clusters of a paragraph's text
pub record AreRunsOf (tables : TableValues) (text : List ℕ) (runs : List ShapeRun) : Type 0 where
  pub spans : flat_map spans_of runs ≡ spans text
  pub columns : flat_map columns_of runs ≡ map (λ (c : Cluster). c.columns) (line_clusters tables text)

-- how many clusters runs have
abbrev pub count_of : List ShapeRun → ℕ
count_of runs = sum_by (λ (run : ShapeRun). run.count) runs

-- a cursor that has not passed the cluster of this number: it has the number of the first cluster of the run at which it is
pub record IsBefore (runs : List ShapeRun) (cursor : Cursor) (number : ℕ) : Type 0 where
  pub within : cursor.run ≤ length runs
  pub first : cursor.first ≡ count_of (take cursor.run runs)
  pub order : cursor.first ≤ number

-- there is a cluster of this number, and it is this one, but for the status after it
pub record IsReadAt (clusters : List Cluster) (number : ℕ) (cluster : Cluster) : Type 0 where
  pub within : number < length clusters
  pub columns : cluster.columns ≡ slice_index (map (λ (c : Cluster). c.columns) clusters) number
  pub is_space : cluster.is_space ≡ slice_index_or (map (λ (c : Cluster). c.is_space) clusters) number false
