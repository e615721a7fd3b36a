-- The copies so far stand at the end.
use Rattle.std.proofs.Common.{◌≡◌, ◌++◌, map, take}
use Rattle.cell_grid.specs.Rows.{shifted}
use Rattle.layout_tests.proofs.cell_grid_tests.from_rows.push_copies.Given as goal

abbrev pub invariant-loop-row : goal.invariant-loop-row
invariant-loop-row l = l.made.items ≡ l.fn.made.items ++ map (shifted l.para.first_byte l.para.first_place) (take l.row-index l.row-items)
