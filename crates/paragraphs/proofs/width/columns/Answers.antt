-- In a cluster of one code point nothing is left after it.
use Rattle.std.proofs.Common.{ap, sym, ◌∙◌}
use Rattle.paragraphs.specs.Columns.{columns_of}
use Rattle.paragraphs.proofs.OneCodePoint.{code-points-first, one-code-point}
use Rattle.paragraphs.proofs.width.columns.Goals as goal

pub returns-in-Some : goal.returns-in-Some
returns-in-Some c =
    c.columns_of_one.ensures ∙ ap (columns_of c.args.tables.now)
    (sym (one-code-point c.args.cluster.now c.next.new.self.rest.now c.in-Some.c c.utf8.cluster
    (sym c.chars-chars.ensures.rest ∙ c.in-Some.ensures.steps.0)
    (rw c.as_str.ensures at c.if-is_empty.ensures)))

pub columns_of_several-requires : goal.columns_of_several-requires
columns_of_several-requires c =
    code-points-first c.args.cluster.now c.next.new.self.rest.now c.in-Some.c c.utf8.cluster (sym c.chars-chars.ensures.rest ∙ c.in-Some.ensures.steps.0)
