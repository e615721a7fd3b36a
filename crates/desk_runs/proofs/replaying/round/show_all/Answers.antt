-- The goals of `show_all` that are answered by hand.
use Rattle.std.proofs.Common.{length, Ok, Err, refl, subst, arith}
use Rattle.std.specs.Prelude.{ℕ}
use Rattle.std.specs.List.{range_with_len}
use Rattle.std.specs.Global.{Vec}
use Rattle.std.proofs.lemmas.List.{length-map}
use Rattle.bg_types.specs.declared.op.OpView.{OpView}
use Rattle.rga_tree.specs.TextOf.{text}
use Rattle.desk_replica.specs.Desk.{Desk}
use Rattle.desk_replica.specs.DeskSets.{sets_of}
use Rattle.desk_files.specs.declared.schedule.step.RunStep.TheVariants.{Show}
use Rattle.desk_files.specs.declared.schedule.step.Numbered.{Numbered}
use Rattle.desk_runs.specs.Setting.{print_in, files_in}
use Rattle.desk_runs.specs.Shows.{IsShowOutcome}
use Rattle.desk_runs.specs.Round.{unnumbered, all_shows}
use Rattle.desk_runs.proofs.StepAnswers.{desk_shown}
use Rattle.desk_runs.proofs.Running.{ran_nothing, kept_tables, done_too, steps_done, steps_ended}
use Rattle.desk_runs.proofs.Rounds.{desk_shows, before-next, before-begins, before-all, flat-ones}
use Rattle.desk_runs.proofs.replaying.round.show_all.Goals as goal

abbrev shows : ℕ → Numbered
shows desk = unnumbered (Show desk)

pub loop-desk-init : goal.loop-desk-init
loop-desk-init g c = record {
  ran = ran_nothing (print_in c.args.setting.now) (files_in c.args.setting.now) (sets_of c.args.desks.now) (g.S.Sink.written c.args.out.now);
  tables = c.requires.tables;
  working = c.requires.working;
}

pub bounds-desks-desk : goal.bounds-desks-desk
bounds-desks-desk g c =
    let test = c.loop-desk-test.true in
    omega (arith, c.requires.count, c.loop-desk.auto.desk, test)

pub show-requires-clause-tables : goal.show-requires-clause-tables
show-requires-clause-tables g c = c.loop-desk.invariant.tables

pub show-requires-clause-working : goal.show-requires-clause-working
show-requires-clause-working g c = c.loop-desk.invariant.working

pub loop-desk-preserved : goal.loop-desk-preserved
loop-desk-preserved g c =
    let setting = c.args.setting.now in
    let desk = c.loop-desk.desk in
    let some = c.loop-desk.auto.desk in
    let test = c.loop-desk-test.true in
    let old = g.S.Sink.written c.loop-desk.out in
    let new = g.S.Sink.written c.show.new.out in
    let failed = g.S.Sink.has_failed c.show.new.out in
    let done = Ok c.in_ok-show.field-0 in
    let shown = subst (λ (d : Desk). IsShowOutcome (print_in setting (text d.set)) old new failed done) c.index-desks-desk.is c.in_ok-show.ensures.shown in
    steps_done (desk_shows desk) c.in_ok-show.field-0 c.loop-desk.invariant (before-next desk_shows 1 desk some)
    (desk_shown setting c.args.desks.now 0 desk c.index-desks-desk.result old new failed done some (omega (arith, c.requires.count, test)) shown) c.in_ok-show.ensures.tables

pub returns-in_err-show-clause-outcome : goal.returns-in_err-show-clause-outcome
returns-in_err-show-clause-outcome g c =
    let setting = c.args.setting.now in
    let files = files_in setting in
    let desk = c.loop-desk.desk in
    let some = c.loop-desk.auto.desk in
    let many = length-map setting.files.now (λ (f : Vec OpView). f.items) in
    let test = c.loop-desk-test.true in
    let old = g.S.Sink.written c.loop-desk.out in
    let new = g.S.Sink.written c.show.new.out in
    let failed = g.S.Sink.has_failed c.show.new.out in
    let fault = c.in_err-show.field-0.0 in
    let shown = subst (λ (d : Desk). IsShowOutcome (print_in setting (text d.set)) old new failed (Err fault)) c.index-desks-desk.is c.in_err-show.ensures.shown in
    let begins = before-begins desk_shows 1 (length files) (all_shows files) (flat-ones shows (range_with_len 1 (length files))) desk some (omega (arith, test, many)) in
    steps_ended (desk_shows desk) c.loop-desk.invariant (before-next desk_shows 1 desk some) begins c.args.desks.now c.args.desks.now new failed c.from_residual.result fault c.from_residual.ensures.1
    (desk_shown setting c.args.desks.now 0 desk c.index-desks-desk.result old new failed (Err fault) some (omega (arith, c.requires.count, test)) shown)

pub returns-in_err-show-clause-tables : goal.returns-in_err-show-clause-tables
returns-in_err-show-clause-tables g c = kept_tables c.in_err-show.ensures.tables c.loop-desk.invariant.tables c.requires.tables

pub returns-clause-outcome : goal.returns-clause-outcome
returns-clause-outcome g c =
    let files = files_in c.args.setting.now in
    let many = length-map c.args.setting.now.files.now (λ (f : Vec OpView). f.items) in
    let test = c.loop-desk-test.false in
    let end = c.loop-desk.auto.desk-end in
    let done = done_too c.loop-desk.invariant
    (before-all desk_shows 1 (length files) (all_shows files) (flat-ones shows (range_with_len 1 (length files))) c.loop-desk.desk c.loop-desk.auto.desk (omega (arith, test, end, many))) in
    (done.working, done.ran)

pub returns-clause-tables : goal.returns-clause-tables
returns-clause-tables g c = kept_tables refl c.loop-desk.invariant.tables c.requires.tables
