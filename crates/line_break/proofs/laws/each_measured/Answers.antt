-- The law by its lemma.
use Rattle.line_break.proofs.Joining.{length-line_clusters}
use Rattle.line_break.proofs.laws.each_measured.Goals as goal

pub returns : goal.returns
returns c = length-line_clusters
