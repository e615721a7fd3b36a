-- The lines so far and those that are left are all.
use Rattle.std.proofs.Common.{◌≡◌, ◌++◌, length}
use Rattle.line_break.specs.Cursors.{IsBefore}
use Rattle.line_break.specs.LineClusters.{line_clusters}
use Rattle.line_break.specs.Lines.{lines}
use Rattle.line_break.specs.Open.{IsOpen, lines_left}
use Rattle.line_break.proofs.line.lines_into.Given as goal

abbrev pub invariant-loop-line : goal.invariant-loop-line
invariant-loop-line l = record {
  state : IsOpen (line_clusters l.tables l.text) l.outline.opportunities.items l.width l.«open»;
  cursor : IsBefore l.outline.runs.items l.cursor l.«open».start.clusters;
  so_far : l.found.items ++ lines_left (line_clusters l.tables l.text) l.width l.«open».start.clusters ≡ lines l.tables l.text l.width;
}

abbrev pub decreases-loop-line : goal.decreases-loop-line
decreases-loop-line l = length (lines_left (line_clusters l.tables l.text) l.width l.«open».start.clusters)
