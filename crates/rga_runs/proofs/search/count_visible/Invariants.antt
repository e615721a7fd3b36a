-- What stays true in the loop of `count_visible`.
use Rattle.std.proofs.Common.{◌≡◌, take}
use Rattle.rga_runs.specs.Stretches.{visible_in}
use Rattle.rga_runs.proofs.search.count_visible.Given as goal

abbrev pub invariant-loop-stretch : goal.invariant-loop-stretch
invariant-loop-stretch l = l.visible ≡ visible_in (take l.stretch-index l.stretches)
