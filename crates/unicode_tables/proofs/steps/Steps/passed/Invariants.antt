-- The text so far is stepped over.
use Rattle.std.proofs.Common.{◌-◌, length}
use Rattle.unicode_tables.proofs.Stepping.{IsPassed}
use Rattle.unicode_tables.proofs.steps.Steps.passed.Given as goal

abbrev pub invariant-loop-end : goal.invariant-loop-end
invariant-loop-end l = IsPassed l.text l.self.steps l.end l.count

abbrev pub decreases-loop-end : goal.decreases-loop-end
decreases-loop-end l = length l.text - l.end
