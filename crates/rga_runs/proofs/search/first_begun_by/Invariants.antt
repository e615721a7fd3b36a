-- What stays true in the loop of `first_begun_by`.
use Rattle.std.proofs.Common.{take}
use Rattle.std.specs.Prelude.{All}
use Rattle.rga_runs.specs.Stretches.{BeginsElsewhere}
use Rattle.rga_runs.proofs.search.first_begun_by.Given as goal

abbrev pub invariant-loop-j : goal.invariant-loop-j
invariant-loop-j l = All (BeginsElsewhere l.first) (take l.j l.stretches)
