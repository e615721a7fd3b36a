-- The copies so far stand at the end.
use Rattle.std.proofs.Common.{◌≡◌, ◌++◌, map, take}
use Rattle.cell_grid.specs.Rows.{shifted}
use Rattle.view_cache.proofs.view.push_shifted.Given as goal

abbrev pub invariant-loop-row : goal.invariant-loop-row
invariant-loop-row l = l.drawn.items ≡ l.fn.drawn.items ++ map (shifted l.para.first_byte l.para.first_place) (take l.row-index l.rows)
