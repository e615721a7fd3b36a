-- The goals of `show` that are answered by hand.
use Rattle.std.proofs.Common.{◌≡◌, ℕ, List, ap, subst, ◌∙◌}
use Rattle.std.specs.Prelude.{encode_utf8_all}
use Rattle.std.proofs.KnownBytes.{Appends-nil}
use Rattle.std.specs.Io.KnownBytes.{Appends}
use Rattle.bg_types.specs.Sink.{AppendsBeginning}
use Rattle.rga_tree.specs.TextOf.{text}
use Rattle.bg_types.specs.declared.class.Base.{Base}
use Rattle.ucd_files.specs.Tables.{TableValues}
use Rattle.cell_grid.specs.Print.{shown}
use Rattle.desk_files.specs.declared.run_fault.RunFault.TheVariants as run
use Rattle.desk_runs.specs.Setting.{print_in}
use Rattle.desk_runs.specs.Shows.{IsShowOutcome}
use Rattle.desk_files.proofs.Interface.{answer_handed}
use Rattle.desk_runs.proofs.replaying.show.show.Goals as goal

-- a print by the same tables, of the same text
same_print : (print : List ℕ) (before tables : TableValues) (width : ℕ) (base : Base) (drawn read : List ℕ) → print ≡ shown before width base drawn → before ≡ tables → drawn ≡ read → print ≡ shown tables width base read
same_print print before tables width base drawn read is same as_read =
    is ∙ ap (λ (t : TableValues). shown t width base drawn) same ∙ ap (shown tables width base) as_read

pub returns-in_err-text-clause-shown : goal.returns-in_err-text-clause-shown
returns-in_err-text-clause-shown g c =
    let old = g.S.Sink.written c.args.out.now in
    answer_handed (IsShowOutcome (print_in c.args.setting.now (text c.args.desk.now.set)) old old (g.S.Sink.has_failed c.args.out.now)) c.from_residual.result run.Memory c.from_residual.ensures.1 (c.requires.working, Appends-nil old)

pub returns-in_err-print-clause-shown : goal.returns-in_err-print-clause-shown
returns-in_err-print-clause-shown g c =
    let old = g.S.Sink.written c.args.out.now in
    answer_handed (IsShowOutcome (print_in c.args.setting.now (text c.args.desk.now.set)) old old (g.S.Sink.has_failed c.args.out.now)) c.from_residual-in_err-print.result run.Memory c.from_residual-in_err-print.ensures.1
    (c.requires.working, Appends-nil old)

pub returns-in_err-write-clause-shown : goal.returns-in_err-write-clause-shown
returns-in_err-write-clause-shown g c =
    let setting = c.args.setting.now in
    let old = g.S.Sink.written c.args.out.now in
    let new = g.S.Sink.written c.write.new.sink in
    let print = same_print c.in_ok-print.print c.args.view.now.tables setting.tables.now setting.width setting.base c.as_str.result.now (encode_utf8_all (text c.args.desk.now.set)) c.in_ok-print.ensures.print c.requires.tables
    (c.as_str.ensures.value ∙ c.in_ok-text.ensures.value) in
    answer_handed (IsShowOutcome (print_in setting (text c.args.desk.now.set)) old new (g.S.Sink.has_failed c.write.new.sink)) c.from_residual-in_err-write.result run.Device c.from_residual-in_err-write.ensures.1
    (c.in_err-write.ensures.failed, subst (AppendsBeginning old new) print c.in_err-write.ensures.err)

pub returns-clause-shown : goal.returns-clause-shown
returns-clause-shown g c =
    let setting = c.args.setting.now in
    let print = same_print c.in_ok-print.print c.args.view.now.tables setting.tables.now setting.width setting.base c.as_str.result.now (encode_utf8_all (text c.args.desk.now.set)) c.in_ok-print.ensures.print c.requires.tables
    (c.as_str.ensures.value ∙ c.in_ok-text.ensures.value) in
    (c.in_ok-write.ensures.failed, subst (Appends (g.S.Sink.written c.args.out.now) (g.S.Sink.written c.write.new.sink)) print c.in_ok-write.ensures.ok)
