-- The line is open as far as opportunities were read, and starts where it did.
use Rattle.std.proofs.Common.{◌≡◌, ◌-◌, length}
use Rattle.line_break.specs.Cursors.{IsBefore}
use Rattle.line_break.specs.LineClusters.{line_clusters}
use Rattle.line_break.specs.Open.{IsOpen}
use Rattle.line_break.proofs.open.Open.next_line.Given as goal

abbrev pub invariant-loop-self : goal.invariant-loop-self
invariant-loop-self l = record {
  state : IsOpen (line_clusters l.tables l.text) l.opportunities l.width l.self;
  lent : l.opportunities ≡ l.outline.opportunities.items;
  cursor : IsBefore l.outline.runs.items l.cursor l.self.start.clusters;
  start : l.self.start ≡ l.initial.self.start;
}

abbrev pub decreases-loop-self : goal.decreases-loop-self
decreases-loop-self l = length l.opportunities - l.self.next
