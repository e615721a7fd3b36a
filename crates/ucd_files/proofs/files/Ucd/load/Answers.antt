-- The goals of `load` that are answered by hand.
use Rattle.std.proofs.Common.{ap, ◌∙◌}
use Rattle.std.proofs.lemmas.Result.{err_from_is_err_and}
use Rattle.unicode_tables.specs.Tables.{with_width}
use Rattle.ucd_files.proofs.TablesOf.{tables_of_lists-read}
use Rattle.ucd_files.proofs.FirstFault.{fault_of-lb}
use Rattle.ucd_files.proofs.files.Ucd.load.Goals as goal

pub returns-clause-ok : goal.returns-clause-ok
returns-clause-ok c =
    let ucd = c.args.self.now in
    c.with_wide_ambiguous.ensures
    ∙ ap (λ tables. with_width tables ucd.wide_ambiguous) (c.in_ok-tables.ensures
    ∙ tables_of_lists-read ucd.bidi.now ucd.brackets.now ucd.mirror.now ucd.lb.now ucd.ea.now _ _ _ _ _
    c.in_ok-bidi.ensures.values c.in_ok-brackets.ensures.values c.in_ok-mirror.ensures.values c.in_ok-lb.ensures.values c.in_ok-ea.ensures.values)

pub returns-in_err-lb-clause-fault : goal.returns-in_err-lb-clause-fault
returns-in_err-lb-clause-fault c =
    let ucd = c.args.self.now in
    let p = err_from_is_err_and c.from_residual-in_err-lb.result c.from_residual-in_err-lb.ensures.1 in
    rw (p.1, p.2) (λ grown. fault_of-lb ucd.bidi.now ucd.brackets.now ucd.mirror.now ucd.lb.now ucd.ea.now c.in_err-lb.field-0.0
    c.in_ok-bidi.ensures.sound c.in_ok-brackets.ensures.sound c.in_ok-mirror.ensures.sound (c.in_err-lb.ensures.fault grown))
