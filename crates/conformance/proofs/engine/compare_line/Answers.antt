-- The goals of `compare_line` that are answered by hand.
use Rattle.std.proofs.Common.{rules}
use Rattle.conformance.proofs.engine.compare_line.Goals as goal

pub returns-then-is_as_wanted-clause-agrees : goal.returns-then-is_as_wanted-clause-agrees
returns-then-is_as_wanted-clause-agrees c = λ agrees. record {
  line = c.in-Some.came;
  is = search rules;
  as_wanted = search rules;
}
