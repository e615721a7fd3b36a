-- The law by its lemma.
use Rattle.cell_grid.proofs.Drawn.{slices-rows}
use Rattle.cell_grid.proofs.laws.entries_are_slices.Goals as goal

pub returns : goal.returns
returns c = λ g drawn. slices-rows c.laws_below.ensures g drawn
