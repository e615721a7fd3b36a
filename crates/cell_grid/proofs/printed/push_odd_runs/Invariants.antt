-- What the runs so far print is put.
use Rattle.std.proofs.Common.{◌≡◌, ◌++◌, take, flat_map}
use Rattle.cell_grid.specs.Print.{run_text}
use Rattle.cell_grid.proofs.printed.push_odd_runs.Given as goal

abbrev pub invariant-loop-number : goal.invariant-loop-number
invariant-loop-number l = l.held.bytes ≡ l.fn.held.bytes ++ flat_map (run_text l.tables l.text) (take l.number l.runs)
