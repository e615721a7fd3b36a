-- The statuses of the paragraph's code points.
use Rattle.std.proofs.Common.{ap, ◌∙◌}
use Rattle.paragraphs.specs.Text.{code_points}
use Rattle.line_break.proofs.Marking.{breaks-of}
use Rattle.line_break.proofs.status.opportunities.Goals as goal

pub returns : goal.returns
returns c =
    breaks-of c.args.tables.now c.args.para.now.text c.deref.result.now c.deref-2.result.now _
    (c.deref.ensures.value ∙ c.in_ok-code_points_into.ensures ∙ ap code_points c.text.ensures) (c.deref-2.ensures.value ∙ c.in_ok-words_into.ensures) c.in_ok-statuses_into.ensures
