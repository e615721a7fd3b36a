-- The goals of `take_op` that are answered by hand.
use Rattle.std.proofs.Common.{◌-◌, ◌∷◌, [], refl, sym, ap, subst, arith}
use Rattle.std.specs.Prelude.{false, option_map}
use Rattle.std.specs.Global.{Vec}
use Rattle.std.proofs.lemmas.List.{length-map}
use Rattle.bg_types.specs.declared.op.OpView.{OpView}
use Rattle.desk_replica.specs.DeskSets.{sets_of, takes}
use Rattle.desk_files.specs.declared.schedule.step.RunStep.TheVariants.{Take}
use Rattle.desk_runs.specs.Setting.{print_in, files_in}
use Rattle.desk_runs.specs.Steps.{at_line}
use Rattle.desk_runs.specs.Shows.{IsStepsOutcome}
use Rattle.desk_runs.proofs.Running.{answered}
use Rattle.desk_runs.proofs.StepAnswers.{operation_there, done-ok, done-accepted, done-fault}
use Rattle.desk_runs.proofs.replaying.steps.take_op.Goals as goal

pub returns : goal.returns
returns c = λ written.
    let print = print_in c.args.setting.now in
    let files = files_in c.args.setting.now in
    let sets = sets_of c.args.desks.now in
    let after = sets_of c.take_at-taken.new.desks in
    let desk = c.args.desk in
    let at = at_line c.args.line (Take desk c.args.file c.args.op) in
    let within = c.requires.step in
    let many = length-map c.args.setting.now.files.now (λ (f : Vec OpView). f.items) in
    let there = operation_there c.args.setting.now.files.now c.args.file c.args.op c.index-setting-file.result c.index.result.now within.2 (omega (arith, many, within.3)) within.4 within.5 c.index.ensures in
    let step = ap (option_map (takes (desk - 1))) there in
    let r = c.take_at-taken.result in
    let done = takes (desk - 1) c.index.result.now in
    subst (IsStepsOutcome print files sets (at ∷ []) after written written false) (sym c.answer.ensures)
    (answered print files sets after at written false desk r refl refl refl (done-ok files sets after r at.step done step c.take_at-taken.ensures.ok)
    (done-accepted files sets after r at.step done step c.take_at-taken.ensures.accepted) (done-fault files sets after r at.step done step c.take_at-taken.ensures.fault))

-- ---- what is done there may be done

pub overflow_sub-desk : goal.overflow_sub-desk
overflow_sub-desk c = omega (arith, c.requires.step.0)

pub overflow_sub-file : goal.overflow_sub-file
overflow_sub-file c = omega (arith, c.requires.step.2)

pub overflow_sub-op : goal.overflow_sub-op
overflow_sub-op c = omega (arith, c.requires.step.4)

pub bounds-setting-file : goal.bounds-setting-file
bounds-setting-file c =
    let many = length-map c.args.setting.now.files.now (λ (f : Vec OpView). f.items) in
    omega (arith, many, c.requires.step.2, c.requires.step.3)

pub take_at-taken-requires : goal.take_at-taken-requires
take_at-taken-requires c =
    let many = length-map c.args.setting.now.files.now (λ (f : Vec OpView). f.items) in
    omega (arith, many, c.requires.count, c.requires.step.0, c.requires.step.1)
