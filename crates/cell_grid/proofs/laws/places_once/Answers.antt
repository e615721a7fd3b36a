-- The law by its lemma.
use Rattle.cell_grid.proofs.PlacesOnce.{places-rows}
use Rattle.cell_grid.proofs.laws.places_once.Goals as goal

pub returns : goal.returns
returns c = places-rows c.laws_below.ensures
