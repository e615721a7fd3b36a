-- What stays true in the loop of `visible_at`.
use Rattle.std.proofs.Common.{◌≡◌, ◌+◌}
use Rattle.rga_runs.specs.Typed.{unset}
use Rattle.rga_runs.proofs.stretch.Stretch.visible_at.Given as goal

abbrev pub invariant-loop-k : goal.invariant-loop-k
invariant-loop-k l = unset l.k l.self.hidden + l.left ≡ l.n
