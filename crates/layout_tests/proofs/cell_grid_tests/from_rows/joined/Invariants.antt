-- The rows of the paragraphs so far.
use Rattle.std.proofs.Common.{◌≡◌, flat_map, take}
use Rattle.cell_grid.specs.Grids.{paragraph_rows}
use Rattle.layout_tests.proofs.cell_grid_tests.from_rows.joined.Given as goal

abbrev pub invariant-loop-para : goal.invariant-loop-para
invariant-loop-para l = l.all.items ≡ flat_map (paragraph_rows l.tables l.width l.base) (take l.para-index l.para-items)
