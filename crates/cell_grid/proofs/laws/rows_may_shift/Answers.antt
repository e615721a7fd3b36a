-- The law by its lemma.
use Rattle.cell_grid.proofs.Drawn.{rows-shift}
use Rattle.cell_grid.proofs.laws.rows_may_shift.Goals as goal

pub returns : goal.returns
returns c = λ tables width base text wide utf8. rows-shift c.laws_below.ensures tables width wide base text utf8
