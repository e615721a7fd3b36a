-- The goals of `file_at` that are answered by hand.
use Rattle.std.proofs.Common.{List, refl, subst, ◌∙◌}
use Rattle.std.specs.Str.{chars}
use Rattle.bg_types.specs.declared.op.OpView.{OpView}
use Rattle.op_codec.specs.Spelling.{SpellsIn}
use Rattle.desk_files.specs.declared.run_fault.RunFault.TheVariants.{Memory}
use Rattle.desk_files.proofs.Interface.{err_handed}
use Rattle.desk_runs.specs.declared.typing_fault.TypingFault.TheVariants.{Run}
use Rattle.desk_runs.specs.Changing.{IsUnfit}
use Rattle.desk_runs.proofs.typing.file_at.Goals as goal

pub returns-in_err-ops-clause-fault : goal.returns-in_err-ops-clause-fault
returns-in_err-ops-clause-fault c =
    let s = c.args.desk.now.set in
    let change = c.args.change.now in
    let fault = c.in_err-ops.field-0.0 in
    err_handed (IsUnfit s change (chars c.args.text.now)) c.from_residual.result fault c.from_residual.ensures.1 c.in_err-ops.ensures.fault

pub returns-in_err-file-clause-fault : goal.returns-in_err-file-clause-fault
returns-in_err-file-clause-fault c = err_handed (IsUnfit c.args.desk.now.set c.args.change.now (chars c.args.text.now)) c.from_residual-in_err-file.result (Run Memory) c.from_residual-in_err-file.ensures.1 refl

pub returns-clause-spelled : goal.returns-clause-spelled
returns-clause-spelled c =
    let made = c.as_slice.ensures.value ∙ c.in_ok-ops.ensures.ok in
    subst (λ (ops : List OpView). SpellsIn c.args.version c.in_ok-file.file.items ops) made c.in_ok-file.ensures.spelled
