-- The goals of `run` that are answered by hand.
use Rattle.std.specs.Option.{option_copied}
use Rattle.desk_files.specs.declared.run_fault.RunFault.TheVariants as run
use Rattle.desk_runs.specs.Setting.{print_in, files_in}
use Rattle.desk_runs.specs.ReplayOutcome.{IsPlanOutcome}
use Rattle.desk_runs.proofs.Plans.{plan_unread}
use Rattle.desk_files.proofs.Interface.{answer_handed}
use Rattle.desk_runs.proofs.replaying.run.Goals as goal

pub returns-in_err-view : goal.returns-in_err-view
returns-in_err-view g c =
    let print = print_in c.args.setting.now in
    let files = files_in c.args.setting.now in
    let schedule = option_copied c.args.schedule in
    let old = g.S.Sink.written c.args.out.now in
    let failed = g.S.Sink.has_failed c.args.out.now in
    answer_handed (IsPlanOutcome print files schedule old old failed) c.from_residual.result run.Memory c.from_residual.ensures.1
    (plan_unread print files schedule old failed run.Memory c.requires.working tt)
