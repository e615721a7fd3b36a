-- The law by its lemma.
use Rattle.cell_grid.proofs.Windows.{window-second}
use Rattle.cell_grid.proofs.laws.windows_in_stretches.Goals as goal

pub returns : goal.returns
returns c = window-second
