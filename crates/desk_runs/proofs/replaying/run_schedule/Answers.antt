-- The goals of `run_schedule` that are answered by hand.
use Rattle.std.proofs.Common.{Some, List, length, ap, sym, subst, ◌∙◌}
use Rattle.std.specs.Global.{Vec}
use Rattle.std.proofs.lemmas.List.{length-map}
use Rattle.bg_types.specs.declared.op.OpView.{OpView}
use Rattle.desk_files.specs.declared.schedule.step.Numbered.{Numbered}
use Rattle.desk_files.specs.declared.run_fault.RunFault.TheVariants as run
use Rattle.desk_replica.specs.Desk.{Desk}
use Rattle.desk_replica.specs.DeskSets.{sets_of, empty_desks}
use Rattle.desk_runs.specs.Setting.{print_in, files_in}
use Rattle.desk_runs.specs.Shows.{IsStepsOutcome}
use Rattle.desk_runs.specs.ReplayOutcome.{IsPlanOutcome}
use Rattle.desk_runs.proofs.FreshDesks.{fresh-empty, fresh-count}
use Rattle.desk_runs.proofs.Plans.{plan_unread, steps_of_plan, unscheduled}
use Rattle.desk_files.proofs.Interface.{answer_handed}
use Rattle.desk_runs.proofs.replaying.run_schedule.Goals as goal

pub returns-in_err-steps : goal.returns-in_err-steps
returns-in_err-steps g c =
    let print = print_in c.args.setting.now in
    let files = files_in c.args.setting.now in
    let schedule = Some c.args.schedule.now in
    let old = g.S.Sink.written c.args.out.now in
    let failed = g.S.Sink.has_failed c.args.out.now in
    answer_handed (IsPlanOutcome print files schedule old old failed) c.from_residual.result c.in_err-steps.field-0.0 c.from_residual.ensures.1
    (plan_unread print files schedule old failed c.in_err-steps.field-0.0 c.requires.working (unscheduled files c.args.schedule.now c.in_err-steps.field-0.0 c.in_err-steps.ensures.fault))

pub returns-in_err-desks : goal.returns-in_err-desks
returns-in_err-desks g c =
    let print = print_in c.args.setting.now in
    let files = files_in c.args.setting.now in
    let schedule = Some c.args.schedule.now in
    let old = g.S.Sink.written c.args.out.now in
    let failed = g.S.Sink.has_failed c.args.out.now in
    answer_handed (IsPlanOutcome print files schedule old old failed) c.from_residual-in_err-desks.result run.Memory c.from_residual-in_err-desks.ensures.1
    (plan_unread print files schedule old failed run.Memory c.requires.working tt)

pub returns : goal.returns
returns g c =
    let print = print_in c.args.setting.now in
    let files = files_in c.args.setting.now in
    let old = g.S.Sink.written c.args.out.now in
    let new = g.S.Sink.written c.run_steps.new.out in
    let failed = g.S.Sink.has_failed c.run_steps.new.out in
    let sets = sets_of c.deref_mut.result.now in
    let after = sets_of c.run_steps.new.desks in
    let r = c.run_steps.result in
    let many = length-map c.args.setting.now.files.now (λ (f : Vec OpView). f.items) in
    let empty = ap sets_of (c.deref_mut.ensures.value ∙ c.in_ok-desks.ensures) ∙ fresh-empty (length c.args.setting.now.files.now) ∙ ap empty_desks (sym many) in
    steps_of_plan print files (Some c.args.schedule.now) old c.in_ok-steps.steps.items sets after new failed r c.in_ok-steps.ensures.ok empty
    (subst (λ (steps : List Numbered). IsStepsOutcome print files sets steps after old new failed r) c.deref.ensures.value c.run_steps.ensures.outcome)

pub run_steps-requires-clause-ready : goal.run_steps-requires-clause-ready
run_steps-requires-clause-ready g c = record {
  count = ap (λ (l : List Desk). length l) (c.deref_mut.ensures.value ∙ c.in_ok-desks.ensures) ∙ fresh-count (length c.args.setting.now.files.now);
  tables = c.requires.tables;
  working = c.requires.working;
}
