-- The cluster isn't passed.
use Rattle.std.proofs.Common.{◌-◌, length}
use Rattle.line_break.specs.Cursors.{IsBefore}
use Rattle.line_break.proofs.cursor.Cursor.seek.Given as goal

abbrev pub invariant-loop-self : goal.invariant-loop-self
invariant-loop-self l = IsBefore l.runs l.self l.number

abbrev pub decreases-loop-self : goal.decreases-loop-self
decreases-loop-self l = length l.runs - l.self.run
