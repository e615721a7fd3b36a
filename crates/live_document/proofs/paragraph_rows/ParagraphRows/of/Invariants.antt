-- What the rows so far weigh.
use Rattle.std.proofs.Common.{take}
use Rattle.live_document.specs.Keeping.{Weigh}
use Rattle.live_document.proofs.paragraph_rows.ParagraphRows.of.Given as goal

abbrev pub invariant-loop-row : goal.invariant-loop-row
invariant-loop-row l = Weigh (take l.row-index l.row-items) l.weight
