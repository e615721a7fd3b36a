-- The law by its lemma.
use Rattle.line_break.proofs.Following.{follow-lines}
use Rattle.line_break.proofs.laws.lines_follow.Goals as goal

pub returns : goal.returns
returns c = follow-lines
