-- What stays true in the loop of `nth_spot`.
use Rattle.std.proofs.Common.{◌≡◌, ◌+◌, take}
use Rattle.rga_runs.specs.Stretches.{count_in}
use Rattle.rga_runs.specs.Blocks.{row_of}
use Rattle.rga_runs.specs.BlockRows.{items_of}
use Rattle.rga_runs.proofs.read.nth_spot.Given as goal

abbrev pub invariant-loop-b : goal.invariant-loop-b
invariant-loop-b l = count_in (row_of (take l.b (items_of l.blocks))) + l.left ≡ l.n
