-- The goals of `take_all` that are answered by hand.
use Rattle.std.proofs.Common.{length, refl, arith}
use Rattle.std.specs.Global.{Vec}
use Rattle.std.proofs.lemmas.List.{length-map}
use Rattle.bg_types.specs.declared.op.OpView.{OpView}
use Rattle.desk_runs.specs.Setting.{files_in}
use Rattle.desk_runs.specs.Round.{all_takes}
use Rattle.desk_runs.proofs.Takes.{taken_nothing, takes_done, takes_ended, takes_all}
use Rattle.desk_runs.proofs.Rounds.{takes_of, before-next, before-begins, before-all}
use Rattle.desk_runs.proofs.replaying.round.take_all.Goals as goal

pub loop-desk-init : goal.loop-desk-init
loop-desk-init c = taken_nothing c.args.setting.now c.args.desks.now

pub take_files-requires-clause-at_least : goal.take_files-requires-clause-at_least
take_files-requires-clause-at_least c = c.loop-desk.auto.desk

pub loop-desk-preserved : goal.loop-desk-preserved
loop-desk-preserved c =
    let piece = takes_of (files_in c.args.setting.now) in
    let desk = c.loop-desk.desk in
    takes_done (piece desk) c.in_ok-take_files.field-0 c.loop-desk.invariant (before-next piece 1 desk c.loop-desk.auto.desk) c.in_ok-take_files.ensures

pub returns-in_err-take_files : goal.returns-in_err-take_files
returns-in_err-take_files c =
    let files = files_in c.args.setting.now in
    let piece = takes_of files in
    let desk = c.loop-desk.desk in
    let some = c.loop-desk.auto.desk in
    let many = length-map c.args.setting.now.files.now (λ (f : Vec OpView). f.items) in
    let test = c.loop-desk-test.true in
    let begins = before-begins piece 1 (length files) (all_takes files) refl desk some (omega (arith, test, many)) in
    takes_ended (piece desk) c.loop-desk.invariant (before-next piece 1 desk some) begins c.take_files.new.desks c.take_files.new.desks
    c.from_residual.result c.in_err-take_files.field-0.0 c.from_residual.ensures.1 c.in_err-take_files.ensures

pub returns : goal.returns
returns c =
    let files = files_in c.args.setting.now in
    let many = length-map c.args.setting.now.files.now (λ (f : Vec OpView). f.items) in
    let test = c.loop-desk-test.false in
    let end = c.loop-desk.auto.desk-end in
    takes_all tt c.loop-desk.invariant (before-all (takes_of files) 1 (length files) (all_takes files) refl c.loop-desk.desk c.loop-desk.auto.desk (omega (arith, test, end, many)))
