-- The goals of `has_two_fields` that are answered by hand.
use Rattle.std.proofs.Common.{nat_eq, sym, ap, ◌∙◌}
use Rattle.ucd_files.proofs.LineFields.{length-fields_of, one_more}
use Rattle.ucd_files.proofs.line.has_two_fields.Goals as goal

pub returns : goal.returns
returns c = ap (λ n. nat_eq n 1) c.number_of.ensures.value ∙ one_more _ ∙ sym (ap (λ n. nat_eq n 2) (length-fields_of c.args.text.now))
