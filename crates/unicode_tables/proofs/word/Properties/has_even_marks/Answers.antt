-- Both properties are even.
use Rattle.std.proofs.Common.{None}
use Rattle.unicode_tables.specs.declared.bracket.Bracket.TheVariants.{None as no_bracket}
use Rattle.unicode_tables.proofs.word.Properties.has_even_marks.Goals as goal

pub returns-then-is_even : goal.returns-then-is_even
returns-then-is_even c = λ on. record {
  brackets = λ k h. c.is_even.ensures c.if-is_even.true k no_bracket h;
  mirrors = λ k h. c.is_even-then-is_even.ensures on k None h;
}
