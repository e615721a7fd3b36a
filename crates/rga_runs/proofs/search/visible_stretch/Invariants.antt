-- What stays true in the loop of `visible_stretch`.
use Rattle.std.proofs.Common.{◌≡◌, ◌+◌, take}
use Rattle.rga_runs.specs.Stretches.{visible_in}
use Rattle.rga_runs.proofs.search.visible_stretch.Given as goal

abbrev pub invariant-loop-p : goal.invariant-loop-p
invariant-loop-p l = visible_in (take l.p l.stretches) + l.left ≡ l.k
