-- The runs before this one are shifted.
use Rattle.std.proofs.Common.{◌≡◌}
use Rattle.cell_grid.specs.Runs.{shifted_run}
use Rattle.cell_grid.proofs.Steps.{halfway}
use Rattle.cell_grid.proofs.runs.shift_runs.Given as goal

abbrev pub invariant-loop-run : goal.invariant-loop-run
invariant-loop-run l = l.runs ≡ halfway (shifted_run l.bytes l.places) l.fn.runs l.run-index
