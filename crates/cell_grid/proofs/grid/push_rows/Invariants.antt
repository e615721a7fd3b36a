-- The rows so far stand after the others.
use Rattle.std.proofs.Common.{◌≡◌, ◌++◌, map}
use Rattle.cell_grid.specs.Rows.{shifted}
use Rattle.cell_grid.proofs.grid.push_rows.Given as goal

abbrev pub invariant-loop-row : goal.invariant-loop-row
invariant-loop-row l = l.drawn.items ≡ l.fn.drawn.items ++ map (shifted l.para.first_byte l.para.first_place) l.yielded
