-- What stays true in the loop of `visible_before`.
use Rattle.std.proofs.Common.{◌≡◌}
use Rattle.rga_runs.specs.Typed.{unset}
use Rattle.rga_runs.proofs.stretch.Stretch.visible_before.Given as goal

abbrev pub invariant-loop-i : goal.invariant-loop-i
invariant-loop-i l = l.visible ≡ unset l.i l.self.hidden
