-- The goals of `run_files` that are answered by hand.
use Rattle.std.proofs.Common.{None, List, length, refl, ap, sym, ◌∙◌}
use Rattle.std.specs.Global.{Vec}
use Rattle.std.proofs.lemmas.List.{length-map}
use Rattle.bg_types.specs.declared.op.OpView.{OpView}
use Rattle.desk_files.specs.declared.run_fault.RunFault.TheVariants as run
use Rattle.desk_replica.specs.Desk.{Desk}
use Rattle.desk_replica.specs.DeskSets.{sets_of, empty_desks}
use Rattle.desk_runs.specs.Setting.{print_in, files_in}
use Rattle.desk_runs.specs.Round.{round}
use Rattle.desk_runs.specs.ReplayOutcome.{IsPlanOutcome}
use Rattle.desk_runs.proofs.FreshDesks.{fresh-empty, fresh-count}
use Rattle.desk_runs.proofs.Plans.{plan_unread, steps_of_plan}
use Rattle.desk_files.proofs.Interface.{answer_handed}
use Rattle.desk_runs.proofs.replaying.run_files.Goals as goal

pub returns-in_err-desks : goal.returns-in_err-desks
returns-in_err-desks g c =
    let print = print_in c.args.setting.now in
    let files = files_in c.args.setting.now in
    let old = g.S.Sink.written c.args.out.now in
    let failed = g.S.Sink.has_failed c.args.out.now in
    answer_handed (IsPlanOutcome print files None old old failed) c.from_residual.result run.Memory c.from_residual.ensures.1
    (plan_unread print files None old failed run.Memory c.requires.working tt)

pub returns : goal.returns
returns g c =
    let files = files_in c.args.setting.now in
    let many = length-map c.args.setting.now.files.now (λ (f : Vec OpView). f.items) in
    let empty = ap sets_of (c.deref_mut.ensures.value ∙ c.in_ok-desks.ensures) ∙ fresh-empty (length c.args.setting.now.files.now) ∙ ap empty_desks (sym many) in
    steps_of_plan (print_in c.args.setting.now) files None (g.S.Sink.written c.args.out.now) (round files) (sets_of c.deref_mut.result.now) (sets_of c.run_round.new.desks) (g.S.Sink.written c.run_round.new.out)
    (g.S.Sink.has_failed c.run_round.new.out) c.run_round.result refl empty c.run_round.ensures.outcome

pub run_round-requires : goal.run_round-requires
run_round-requires g c = record {
  count = ap (λ (l : List Desk). length l) (c.deref_mut.ensures.value ∙ c.in_ok-desks.ensures) ∙ fresh-count (length c.args.setting.now.files.now);
  tables = c.requires.tables;
  working = c.requires.working;
}
