-- The clusters so far are outlined and measured.
use Rattle.std.proofs.Common.{◌-◌, length}
use Rattle.line_break.specs.Reached.{IsAt}
use Rattle.line_break.proofs.outline.outline_into.Given as goal

abbrev pub invariant-loop-bytes : goal.invariant-loop-bytes
invariant-loop-bytes l = IsAt l.tables l.para.text l.clusters l.outline.runs.items l.outline.opportunities.items l.reached

abbrev pub decreases-loop-bytes : goal.decreases-loop-bytes
decreases-loop-bytes l = length l.points - l.reached.place
