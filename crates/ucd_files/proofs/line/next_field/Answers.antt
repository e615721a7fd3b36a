-- The goals of `next_field` that are answered by hand.
use Rattle.std.proofs.Common.{◌∙◌, ap, sym}
use Rattle.ucd_files.specs.Line.{trimmed, blanks, field}
use Rattle.ucd_files.proofs.LineFields.{field-0, field-suc}
use Rattle.ucd_files.proofs.line.next_field.Goals as goal

pub returns-clause-first : goal.returns-clause-first
returns-clause-first c = c.trimmed.ensures ∙ ap (trimmed blanks) c.cut.ensures.before ∙ sym (field-0 c.args.text.now)

pub returns-clause-second : goal.returns-clause-second
returns-clause-second c = ap (field 0) c.cut.ensures.after ∙ sym (field-suc c.args.text.now 0)

pub returns-clause-third : goal.returns-clause-third
returns-clause-third c = ap (field 1) c.cut.ensures.after ∙ sym (field-suc c.args.text.now 1)
