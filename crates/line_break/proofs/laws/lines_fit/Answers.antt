-- The law by its lemma.
use Rattle.line_break.proofs.Fitting.{lines-fit}
use Rattle.line_break.proofs.laws.lines_fit.Goals as goal

pub returns : goal.returns
returns c = lines-fit
