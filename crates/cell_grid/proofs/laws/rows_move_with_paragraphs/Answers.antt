-- The law by its lemma.
use Rattle.cell_grid.proofs.Moving.{rows-moved}
use Rattle.cell_grid.proofs.laws.rows_move_with_paragraphs.Goals as goal

pub returns : goal.returns
returns c = rows-moved
