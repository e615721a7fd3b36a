-- What the state of the open line says.
use Rattle.std.specs.Prelude.{◌≡◌, ◌≢◌, ℕ, ◌+◌, ◌<◌, ◌≤◌, true, List, take, drop, length}
use Rattle.line_break.specs.declared.cluster.Cluster.{Cluster}
use Rattle.line_break.specs.declared.line.Line.{Line}
use Rattle.line_break.specs.declared.open.Open.{Open}
use Rattle.line_break.specs.declared.opportunity.Boundary.{Boundary}
use Rattle.line_break.specs.declared.opportunity.Opportunity.{Opportunity}
use Rattle.line_break.specs.declared.status.Break.TheVariants.{Must}
use Rattle.line_break.specs.Lines.{without_tail, columns, status_at, is_opportunity, lines_from}
use Rattle.line_break.specs.Opportunities.{opportunities_behind}

-- a boundary between these clusters, with the columns before it
pub record IsBoundary (clusters : List Cluster) (b : Boundary) : Type 0 where
  pub within : b.clusters ≤ length clusters
  pub solid : b.solid ≡ columns (without_tail (take b.clusters clusters))
  pub columns : b.columns ≡ columns (take b.clusters clusters)

-- the last boundary up to which a line that starts there fits
pub record IsLastFitting (clusters : List Cluster) (width : ℕ) (start b : Boundary) : Type 0 where
  pub boundary : IsBoundary clusters b
  pub order : start.clusters ≤ b.clusters
  pub fits : b.solid ≤ start.columns + width
  pub last : b.clusters < length clusters → start.columns + width < columns (without_tail (take (b.clusters + 1) clusters))

-- the open line fits up to the last opportunity that was read, no line must end there or before, and those behind it are still to be read
pub record IsOpen (clusters : List Cluster) (opportunities : List Opportunity) (width : ℕ) (o : Open) : Type 0 where
  pub start : IsBoundary clusters o.start
  pub reached : IsBoundary clusters o.reached
  pub order : o.start.clusters ≤ o.reached.clusters
  pub fits : o.reached.solid ≤ o.start.columns + width
  pub no_must : (k : ℕ) → o.start.clusters < k → k ≤ o.reached.clusters → status_at clusters k ≢ Must
  pub opportunity : o.start.clusters < o.reached.clusters → is_opportunity clusters o.reached.clusters ≡ true
  pub left : drop o.next opportunities ≡ opportunities_behind clusters o.reached.clusters

-- the lines from this boundary on
unfoldable pub lines_left : List Cluster → ℕ → ℕ → List Line
lines_left clusters width start = lines_from (length (drop start clusters)) width start (drop start clusters)
