-- The law by its lemmas.
use Rattle.cell_grid.proofs.Following.{rows-follow, rows-some}
use Rattle.cell_grid.proofs.laws.rows_follow.Goals as goal

pub returns-clause-some : goal.returns-clause-some
returns-clause-some c = rows-some c.laws_below.ensures

pub returns-clause-follow : goal.returns-clause-follow
returns-clause-follow c = rows-follow c.laws_below.ensures
