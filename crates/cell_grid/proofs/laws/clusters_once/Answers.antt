-- The law by its lemma.
use Rattle.cell_grid.proofs.Once.{clusters-once}
use Rattle.cell_grid.proofs.laws.clusters_once.Goals as goal

pub returns : goal.returns
returns c = clusters-once c.laws_below.ensures
