-- The law by its lemmas.
use Rattle.std.proofs.Common.{◌∙◌}
use Rattle.line_break.specs.LineClusters.{line_clusters}
use Rattle.line_break.proofs.Joining.{length-line_clusters}
use Rattle.line_break.proofs.LinesLeft.{lines_of-nil}
use Rattle.line_break.proofs.laws.empty_line.Goals as goal

pub returns : goal.returns
returns c = λ tables text width none. lines_of-nil width (line_clusters tables text) (length-line_clusters tables text ∙ none)
