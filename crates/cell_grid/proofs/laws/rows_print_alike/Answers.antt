-- The law by its lemmas.
use Rattle.cell_grid.proofs.Elsewhere.{rows-slices, row-alike, sizes-alike}
use Rattle.cell_grid.proofs.laws.rows_print_alike.Goals as goal

pub returns-clause-slices : goal.returns-clause-slices
returns-clause-slices c = λ tables width base text wide utf8. rows-slices c.laws_below.ensures tables width base text wide utf8

pub returns-clause-alike : goal.returns-clause-alike
returns-clause-alike c = λ tables before text after places row are. row-alike tables before text after places row are

pub returns-clause-sizes : goal.returns-clause-sizes
returns-clause-sizes c = λ tables before text after places row are. sizes-alike tables before text after places row.entries are
