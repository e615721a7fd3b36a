-- The word tells the columns, but for the choice of width.
use Rattle.std.proofs.Common.{◌+◌, ap, ◌∙◌}
use Rattle.paragraphs.proofs.OneColumns.{columns-sum}
use Rattle.paragraphs.proofs.width.columns_of_one.Goals as goal

pub returns : goal.returns
returns c = ap (λ n. c.args.word.now.columns + n) c.from.ensures ∙ columns-sum c.args.tables.now c.args.word.now c.args.c c.is_made_wide.result c.requires c.is_made_wide.ensures
