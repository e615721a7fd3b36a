-- The goals of `word` that are answered by hand.
use Rattle.std.proofs.Common.{ap, ◌∙◌, arith}
use Rattle.unicode_tables.specs.Word.{word_of}
use Rattle.unicode_tables.proofs.Marks.{word-found}
use Rattle.unicode_tables.proofs.tables.Tables.word.Goals as goal

pub returns : goal.returns
returns c =
    let tables = c.self.inside in
    c.at.ensures
    ∙ word-found tables.words tables.bracket tables.mirror c.args.c (omega (arith, c.ranges.c)) c.self.invariant.1
    ∙ ap (λ tables. word_of tables c.args.c) c.self.view_is
