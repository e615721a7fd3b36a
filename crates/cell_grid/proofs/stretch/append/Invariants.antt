-- The pieces from here on, from the last.
use Rattle.std.proofs.Common.{◌≡◌, ◌++◌, drop, reverse}
use Rattle.cell_grid.proofs.stretch.append.Given as goal

abbrev pub invariant-loop-number : goal.invariant-loop-number
invariant-loop-number l = l.runs.items ≡ l.fn.runs.items ++ reverse (drop l.number l.pieces)
