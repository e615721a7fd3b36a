-- The law by its lemma.
use Rattle.cell_grid.proofs.CellsOnce.{cells-rows}
use Rattle.cell_grid.proofs.laws.cells_once.Goals as goal

pub returns : goal.returns
returns c = cells-rows c.laws_below.ensures
