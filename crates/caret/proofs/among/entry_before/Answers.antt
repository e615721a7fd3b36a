-- Gap 0 has none.
use Rattle.std.proofs.Common.{sym, ap, ◌∙◌, arith}
use Rattle.caret.specs.Lists.{element_before}
use Rattle.caret.proofs.Steps.{element_before-is}
use Rattle.caret.proofs.among.entry_before.Goals as goal

pub returns-then-gap-eq0-clause-entry : goal.returns-then-gap-eq0-clause-entry
returns-then-gap-eq0-clause-entry c = sym (ap (element_before c.args.row.now.entries) c.if-gap-eq0.true)

pub returns-clause-entry : goal.returns-clause-entry
returns-clause-entry c = c.entry.ensures ∙ sym (element_before-is c.args.row.now.entries c.args.gap (omega arith))
