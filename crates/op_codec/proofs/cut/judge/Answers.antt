-- The goals of `judge` that are answered by hand.
use Rattle.std.proofs.Common.{sym, ◌∙◌, rules}
use Rattle.op_codec.proofs.cut.judge.Goals as goal

pub returns-in-Some-clause-err : goal.returns-in-Some-clause-err
returns-in-Some-clause-err c = (sym c.first_fault.ensures ∙ c.in-Some.is, search rules)
