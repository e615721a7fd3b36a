-- The goals of `take_file` that are answered by hand.
use Rattle.std.proofs.Common.{length, arith}
use Rattle.std.specs.Prelude.{ℕ}
use Rattle.std.specs.List.{range_with_len}
use Rattle.std.specs.Global.{Vec}
use Rattle.std.proofs.lemmas.List.{length-map}
use Rattle.bg_types.specs.declared.op.OpView.{OpView}
use Rattle.desk_files.specs.declared.schedule.step.RunStep.TheVariants.{Take}
use Rattle.desk_files.specs.Schedule.{file_at}
use Rattle.desk_runs.specs.Setting.{files_in}
use Rattle.desk_runs.specs.Round.{unnumbered, file_takes}
use Rattle.desk_runs.proofs.StepAnswers.{count_there}
use Rattle.desk_runs.proofs.Takes.{taken_nothing, takes_done, takes_ended, takes_all}
use Rattle.desk_runs.proofs.Rounds.{op_takes, before-next, before-begins, before-all, flat-ones}
use Rattle.desk_runs.proofs.replaying.round.take_file.Goals as goal

pub loop-op-init : goal.loop-op-init
loop-op-init c = taken_nothing c.args.setting.now c.args.desks.now

pub take_op-requires-clause-step : goal.take_op-requires-clause-step
take_op-requires-clause-step c =
    let files = c.args.setting.now.files.now in
    let many = length-map files (λ (f : Vec OpView). f.items) in
    let ops = count_there files c.args.file c.len-op-end.result c.index-setting-file.result c.requires.file_at_least c.requires.file_at_most c.len-op-end.ensures in
    let test = c.loop-op-test.true in
    (c.requires.desk_at_least, omega (arith, c.requires.desk_at_most, many), c.requires.file_at_least, omega (arith, c.requires.file_at_most, many), c.loop-op.auto.op, omega (arith, test, ops))

pub loop-op-preserved : goal.loop-op-preserved
loop-op-preserved c =
    let piece = op_takes c.args.desk c.args.file in
    takes_done (piece c.loop-op.op) c.in_ok-take_op.field-0 c.loop-op.invariant (before-next piece 1 c.loop-op.op c.loop-op.auto.op) c.in_ok-take_op.ensures

pub returns-in_err-take_op : goal.returns-in_err-take_op
returns-in_err-take_op c =
    let files = files_in c.args.setting.now in
    let piece = op_takes c.args.desk c.args.file in
    let count = length (file_at files c.args.file) in
    let op = c.loop-op.op in
    let ops = count_there c.args.setting.now.files.now c.args.file c.len-op-end.result c.index-setting-file.result c.requires.file_at_least c.requires.file_at_most c.len-op-end.ensures in
    let test = c.loop-op-test.true in
    let begins = before-begins piece 1 count (file_takes files c.args.desk c.args.file) (flat-ones (λ (o : ℕ). unnumbered (Take c.args.desk c.args.file o)) (range_with_len 1 count)) op c.loop-op.auto.op (omega (arith, test, ops)) in
    takes_ended (piece op) c.loop-op.invariant (before-next piece 1 op c.loop-op.auto.op) begins c.take_op.new.desks c.take_op.new.desks
    c.from_residual.result c.in_err-take_op.field-0.0 c.from_residual.ensures.1 c.in_err-take_op.ensures

pub returns : goal.returns
returns c =
    let files = files_in c.args.setting.now in
    let piece = op_takes c.args.desk c.args.file in
    let count = length (file_at files c.args.file) in
    let op = c.loop-op.op in
    let ops = count_there c.args.setting.now.files.now c.args.file c.len-op-end.result c.index-setting-file.result c.requires.file_at_least c.requires.file_at_most c.len-op-end.ensures in
    let test = c.loop-op-test.false in
    let end = c.loop-op.auto.op-end in
    takes_all tt c.loop-op.invariant (before-all piece 1 count (file_takes files c.args.desk c.args.file) (flat-ones (λ (o : ℕ). unnumbered (Take c.args.desk c.args.file o)) (range_with_len 1 count)) op c.loop-op.auto.op (omega (arith, test, end, ops)))
