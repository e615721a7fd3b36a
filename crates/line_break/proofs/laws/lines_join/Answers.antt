-- The law by its lemma.
use Rattle.line_break.proofs.Joining.{joined-lines}
use Rattle.line_break.proofs.laws.lines_join.Goals as goal

pub returns : goal.returns
returns c = joined-lines
