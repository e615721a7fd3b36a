-- The goals of `run_step` that are answered by hand.
use Rattle.std.proofs.Common.{◌-◌, ◌∷◌, [], sym, ap, subst, arith}
use Rattle.std.specs.Prelude.{false, Bool}
use Rattle.std.specs.Global.{Vec}
use Rattle.std.proofs.lemmas.List.{length-map}
use Rattle.bg_types.specs.declared.op.OpView.{OpView}
use Rattle.desk_replica.specs.DeskSets.{sets_of, merges}
use Rattle.desk_files.specs.declared.schedule.step.RunStep.{RunStep}
use Rattle.desk_files.specs.Schedule.{IsStepOf}
use Rattle.desk_runs.specs.Setting.{print_in, files_in, IsStepsOutcomeIn}
use Rattle.desk_runs.specs.Steps.{at_line, desk_step, desk_of}
use Rattle.desk_runs.specs.Shows.{shown, IsStepsOutcome}
use Rattle.desk_runs.proofs.Running.{answered}
use Rattle.desk_runs.proofs.StepAnswers.{done-ok, done-accepted, done-fault, desk_shown}
use Rattle.desk_runs.proofs.replaying.steps.run_step.Goals as goal

pub returns-in-Take-clause-outcome : goal.returns-in-Take-clause-outcome
returns-in-Take-clause-outcome g c =
    let setting = c.args.setting.now in
    let desks = c.args.desks.now in
    let line = c.args.at.now.line in
    let old = g.S.Sink.written c.args.out.now in
    subst (λ (failed : Bool). IsStepsOutcomeIn setting desks (c.args.at.now ∷ []) c.take_op.new.desks old old failed c.take_op.result) (sym c.requires.ready.working)
    (subst (λ (step : RunStep). IsStepsOutcomeIn setting desks (at_line line step ∷ []) c.take_op.new.desks old old false c.take_op.result) (sym c.in-Take.is) (c.take_op.ensures old))

pub returns-in-Merge-clause-outcome : goal.returns-in-Merge-clause-outcome
returns-in-Merge-clause-outcome g c =
    let print = print_in c.args.setting.now in
    let files = files_in c.args.setting.now in
    let sets = sets_of c.args.desks.now in
    let after = sets_of c.merge_at-merged.new.desks in
    let at = c.args.at.now in
    let old = g.S.Sink.written c.args.out.now in
    let failed = g.S.Sink.has_failed c.args.out.now in
    let r = c.merge_at-merged.result in
    let done = merges (c.in-Merge.desk - 1) (c.in-Merge.from - 1) in
    let step = ap (desk_step files) c.in-Merge.is in
    subst (IsStepsOutcome print files sets (at ∷ []) after old old failed) (sym c.answer.ensures)
    (answered print files sets after at old failed c.in-Merge.desk r c.requires.ready.working (sym (ap desk_of c.in-Merge.is)) (ap (shown print sets) c.in-Merge.is)
    (done-ok files sets after r at.step done step c.merge_at-merged.ensures.ok) (done-accepted files sets after r at.step done step c.merge_at-merged.ensures.accepted)
    (done-fault files sets after r at.step done step c.merge_at-merged.ensures.fault))

pub returns-in-Show-clause-outcome : goal.returns-in-Show-clause-outcome
returns-in-Show-clause-outcome g c =
    let setting = c.args.setting.now in
    let desks = c.args.desks.now in
    let line = c.args.at.now.line in
    let old = g.S.Sink.written c.args.out.now in
    let new = g.S.Sink.written c.show.new.out in
    let failed = g.S.Sink.has_failed c.show.new.out in
    let within = subst (IsStepOf (files_in setting)) c.in-Show.is c.requires.step in
    let many = length-map setting.files.now (λ (f : Vec OpView). f.items) in
    let long = c.requires.ready.count in
    subst (λ (step : RunStep). IsStepsOutcomeIn setting desks (at_line line step ∷ []) desks old new failed c.show.result) (sym c.in-Show.is)
    (desk_shown setting desks line c.in-Show.desk c.index-desks-desk.result old new failed c.show.result within.0 (omega (arith, many, long, within.1)) c.show.ensures.shown)

-- ---- what is done there may be done

pub take_op-requires-clause-count : goal.take_op-requires-clause-count
take_op-requires-clause-count g c = c.requires.ready.count

pub take_op-requires-clause-step : goal.take_op-requires-clause-step
take_op-requires-clause-step g c = subst (IsStepOf (files_in c.args.setting.now)) c.in-Take.is c.requires.step

pub overflow_sub-desk : goal.overflow_sub-desk
overflow_sub-desk g c = let within = subst (IsStepOf (files_in c.args.setting.now)) c.in-Merge.is c.requires.step in omega (arith, within.0)

pub overflow_sub-from : goal.overflow_sub-from
overflow_sub-from g c = let within = subst (IsStepOf (files_in c.args.setting.now)) c.in-Merge.is c.requires.step in omega (arith, within.2)

pub merge_at-merged-requires-clause-desk : goal.merge_at-merged-requires-clause-desk
merge_at-merged-requires-clause-desk g c =
    let within = subst (IsStepOf (files_in c.args.setting.now)) c.in-Merge.is c.requires.step in
    let many = length-map c.args.setting.now.files.now (λ (f : Vec OpView). f.items) in
    let long = c.requires.ready.count in
    omega (arith, many, long, within.0, within.1)

pub merge_at-merged-requires-clause-from : goal.merge_at-merged-requires-clause-from
merge_at-merged-requires-clause-from g c =
    let within = subst (IsStepOf (files_in c.args.setting.now)) c.in-Merge.is c.requires.step in
    let many = length-map c.args.setting.now.files.now (λ (f : Vec OpView). f.items) in
    let long = c.requires.ready.count in
    omega (arith, many, long, within.2, within.3)

pub overflow_sub-desk-in-Show : goal.overflow_sub-desk-in-Show
overflow_sub-desk-in-Show g c = let within = subst (IsStepOf (files_in c.args.setting.now)) c.in-Show.is c.requires.step in omega (arith, within.0)

pub bounds-desks-desk : goal.bounds-desks-desk
bounds-desks-desk g c =
    let within = subst (IsStepOf (files_in c.args.setting.now)) c.in-Show.is c.requires.step in
    let many = length-map c.args.setting.now.files.now (λ (f : Vec OpView). f.items) in
    let long = c.requires.ready.count in
    omega (arith, many, long, within.0, within.1)

pub show-requires-clause-tables : goal.show-requires-clause-tables
show-requires-clause-tables g c = c.requires.ready.tables

pub show-requires-clause-working : goal.show-requires-clause-working
show-requires-clause-working g c = c.requires.ready.working

pub returns-in-Show-clause-tables : goal.returns-in-Show-clause-tables
returns-in-Show-clause-tables g c = c.show.ensures.tables
