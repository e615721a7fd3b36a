-- The law by its lemma.
use Rattle.cell_grid.proofs.Rising.{first_places-rise}
use Rattle.cell_grid.proofs.laws.first_places_rise.Goals as goal

pub returns : goal.returns
returns c = first_places-rise c.laws_below.ensures
