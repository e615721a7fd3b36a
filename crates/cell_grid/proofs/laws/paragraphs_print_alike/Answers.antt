-- The law by its lemma.
use Rattle.cell_grid.proofs.Elsewhere.{paragraphs-alike}
use Rattle.cell_grid.proofs.laws.paragraphs_print_alike.Goals as goal

pub returns : goal.returns
returns c = λ tables width base text wide utf8. paragraphs-alike c.laws_below.ensures tables width base wide text utf8
