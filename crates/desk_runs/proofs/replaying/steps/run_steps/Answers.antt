-- The goals of `run_steps` that are answered by hand.
use Rattle.std.proofs.Common.{get_or, refl, arith, ◌∷◌, []}
use Rattle.std.proofs.lemmas.List.{take_all}
use Rattle.desk_replica.specs.DeskSets.{sets_of}
use Rattle.desk_runs.specs.Setting.{print_in, files_in}
use Rattle.desk_files.specs.declared.schedule.step.RunStep.TheVariants.{Take}
use Rattle.desk_files.specs.declared.schedule.step.Numbered.{Numbered}
use Rattle.desk_runs.proofs.Running.{ran_nothing, kept_tables, done_too, steps_done, steps_ended, step-next, step-begins}
use Rattle.desk_runs.proofs.replaying.steps.run_steps.Goals as goal

abbrev none : Numbered
none = record { line = 0; step = Take 0 0 0 }

pub loop-at-preserved : goal.loop-at-preserved
loop-at-preserved g c =
    let steps = c.args.steps.now in
    let i = c.loop-at.at-index in
    steps_done (get_or steps i none ∷ []) c.in_ok-run_step.field-0 c.loop-at.invariant (step-next steps i none c.loop-at-test.true) c.in_ok-run_step.ensures.outcome c.in_ok-run_step.ensures.tables

pub returns-in_err-run_step-clause-outcome : goal.returns-in_err-run_step-clause-outcome
returns-in_err-run_step-clause-outcome g c =
    let steps = c.args.steps.now in
    let i = c.loop-at.at-index in
    let new = g.S.Sink.written c.run_step.new.out in
    let failed = g.S.Sink.has_failed c.run_step.new.out in
    steps_ended (get_or steps i none ∷ []) c.loop-at.invariant (step-next steps i none c.loop-at-test.true) (step-begins steps i none c.loop-at-test.true) c.run_step.new.desks c.run_step.new.desks new failed
    c.from_residual.result c.in_err-run_step.field-0.0 c.from_residual.ensures.1 c.in_err-run_step.ensures.outcome

pub loop-at-init : goal.loop-at-init
loop-at-init g c = record {
  ran = ran_nothing (print_in c.args.setting.now) (files_in c.args.setting.now) (sets_of c.args.desks.now) (g.S.Sink.written c.args.out.now);
  tables = c.requires.ready.tables;
  working = c.requires.ready.working;
}

pub run_step-requires-clause-ready : goal.run_step-requires-clause-ready
run_step-requires-clause-ready g c = record {
  count = omega (arith, c.loop-at.auto.desks, c.requires.ready.count);
  tables = c.loop-at.invariant.tables;
  working = c.loop-at.invariant.working;
}

pub returns-in_err-run_step-clause-tables : goal.returns-in_err-run_step-clause-tables
returns-in_err-run_step-clause-tables g c = kept_tables c.in_err-run_step.ensures.tables c.loop-at.invariant.tables c.requires.ready.tables

pub returns-clause-outcome : goal.returns-clause-outcome
returns-clause-outcome g c =
    let all = done_too c.loop-at.invariant (take_all c.loop-at.at-index c.args.steps.now c.loop-at-test.false) in
    (all.working, all.ran)

pub returns-clause-tables : goal.returns-clause-tables
returns-clause-tables g c = kept_tables refl c.loop-at.invariant.tables c.requires.ready.tables
