-- The goals of `run_round` that are answered by hand.
use Rattle.std.proofs.Common.{sym, subst, arith}
use Rattle.std.specs.Prelude.{Bool}
use Rattle.desk_replica.specs.DeskSets.{sets_of}
use Rattle.desk_files.proofs.Interface.{answer_handed}
use Rattle.desk_runs.specs.Setting.{print_in, files_in, IsStepsOutcomeIn}
use Rattle.desk_runs.specs.Shows.{IsStepsEnd}
use Rattle.desk_runs.specs.Round.{all_takes, all_shows, round}
use Rattle.desk_runs.proofs.Running.{end_before, outcome_then}
use Rattle.desk_runs.proofs.replaying.round.run_round.Goals as goal

pub take_all-requires : goal.take_all-requires
take_all-requires g c = c.requires.count

-- a fault ended the takes, and so the shows that would have followed
pub returns-in_err-take_all-clause-outcome : goal.returns-in_err-take_all-clause-outcome
returns-in_err-take_all-clause-outcome g c =
    let print = print_in c.args.setting.now in
    let files = files_in c.args.setting.now in
    let sets = sets_of c.args.desks.now in
    let old = g.S.Sink.written c.args.out.now in
    let failed = g.S.Sink.has_failed c.args.out.now in
    let fault = c.in_err-take_all.field-0.0 in
    answer_handed (IsStepsOutcomeIn c.args.setting.now c.args.desks.now (round files) c.take_all.new.desks old old failed) c.from_residual.result fault c.from_residual.ensures.1
    (end_before print files sets (all_takes files) (all_shows files) old old failed fault
    (subst (λ (f : Bool). IsStepsEnd print files sets (all_takes files) old old f fault) (sym c.requires.working) (c.in_err-take_all.ensures old)))

pub returns-clause-outcome : goal.returns-clause-outcome
returns-clause-outcome g c =
    let files = files_in c.args.setting.now in
    let old = g.S.Sink.written c.args.out.now in
    outcome_then (print_in c.args.setting.now) files (sets_of c.args.desks.now) (sets_of c.take_all.new.desks) (all_takes files) old old
    (c.in_ok-take_all.ensures old).1 (all_shows files) (sets_of c.take_all.new.desks) (g.S.Sink.written c.show_all.new.out) (g.S.Sink.has_failed c.show_all.new.out) c.show_all.result c.show_all.ensures.outcome

pub returns-clause-tables : goal.returns-clause-tables
returns-clause-tables g c = c.show_all.ensures.tables

pub show_all-requires : goal.show_all-requires
show_all-requires g c = record {
  count = omega (arith, c.requires.count);
  tables = c.requires.tables;
  working = c.requires.working;
}
