-- The line fits up to the boundary that was reached.
use Rattle.std.proofs.Common.{◌+◌, ◌-◌, ◌≤◌, length}
use Rattle.line_break.specs.Cursors.{IsBefore}
use Rattle.line_break.specs.LineClusters.{line_clusters}
use Rattle.line_break.specs.Open.{IsBoundary}
use Rattle.line_break.proofs.open.last_fitting.Given as goal

abbrev pub invariant-loop-cluster : goal.invariant-loop-cluster
invariant-loop-cluster l = record {
  boundary : IsBoundary (line_clusters l.tables l.text) l.end;
  order : l.start.clusters ≤ l.end.clusters;
  fits : l.end.solid ≤ l.start.columns + l.width;
  cursor : IsBefore l.runs l.cursor l.end.clusters;
}

abbrev pub decreases-loop-cluster : goal.decreases-loop-cluster
decreases-loop-cluster l = length (line_clusters l.tables l.text) - l.end.clusters
