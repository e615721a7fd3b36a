-- The goals of `replay_from` that are answered by hand.
use Rattle.std.proofs.Common.{ℕ, List, Err, ap, subst}
use Rattle.std.specs.List.{AllZip}
use Rattle.std.specs.Option.{option_copied}
use Rattle.std.proofs.KnownBytes.{Keeps-refl}
use Rattle.bg_types.specs.declared.op.OpView.{OpView}
use Rattle.ucd_files.specs.Tables.{TableValues}
use Rattle.desk_runs.specs.Printed.{printed}
use Rattle.desk_files.specs.Reading.{IsReadAs}
use Rattle.desk_files.specs.Files.{lists_of}
use Rattle.desk_files.specs.Cause.{IsReadCaused}
use Rattle.desk_files.specs.Fault.{of_ucd_fault}
use Rattle.desk_runs.specs.ReplayOutcome.{Given, given, print_of, IsPlanOutcome, IsReplayOutcome, IsReplayOutcomeOver}
use Rattle.desk_runs.proofs.Plans.{ended_by_tables, ended_by_files, plan_of_run}
use Rattle.desk_files.proofs.Interface.{answer_handed, none_were_asked, run_ended, run_unread, run_told}
use Rattle.desk_runs.proofs.replaying.replay_from.Goals as goal

pub returns-in_err-tables-clause-outcome : goal.returns-in_err-tables-clause-outcome
returns-in_err-tables-clause-outcome g c =
    let run : List (List ℕ) → Given = λ told. given c.args.ucd.now c.args.width c.args.base told (option_copied c.args.schedule) in
    let old = g.S.Sink.written c.args.out.now in
    let failed = g.S.Sink.has_failed c.args.out.now in
    let fault = c.in_err-tables.field-0.0 in
    answer_handed (IsReplayOutcomeOver _ _ _ run old old failed) c.from_residual.result (of_ucd_fault fault) c.from_residual.ensures.1
    (run_unread _ _ _ _ (λ files. IsReplayOutcome (run files) old old failed) (Err (of_ucd_fault fault)) c.requires.readers
    (λ files. ended_by_tables (run files) old failed c.requires.working fault c.in_err-tables.ensures.fault))

pub returns-in_err-lists-clause-outcome : goal.returns-in_err-lists-clause-outcome
returns-in_err-lists-clause-outcome g c =
    let run : List (List ℕ) → Given = λ told. given c.args.ucd.now c.args.width c.args.base told (option_copied c.args.schedule) in
    let old = g.S.Sink.written c.args.out.now in
    let failed = g.S.Sink.has_failed c.args.out.now in
    let fault = c.in_err-lists.field-0.0 in
    answer_handed (IsReplayOutcomeOver _ _ _ run old old failed) c.from_residual-in_err-lists.result fault c.from_residual-in_err-lists.ensures.1
    (run_ended _ _ _ _ (λ files. IsReplayOutcome (run files) old old failed) IsReadCaused fault (λ n lost. ((c.requires.working, Keeps-refl old), λ files. c.in_ok-tables.ensures.sound))
    (λ files. ended_by_files (run files) old failed c.requires.working fault c.in_ok-tables.ensures.sound) c.in_err-lists.ensures.fault)

pub returns-clause-outcome : goal.returns-clause-outcome
returns-clause-outcome g c =
    let run : List (List ℕ) → Given = λ told. given c.args.ucd.now c.args.width c.args.base told (option_copied c.args.schedule) in
    let old = g.S.Sink.written c.args.out.now in
    let new = g.S.Sink.written c.run.new.out in
    let failed = g.S.Sink.has_failed c.run.new.out in
    let r = c.run.result in
    let lists = lists_of c.in_ok-lists.lists.items in
    let planned = λ (told : List (List ℕ)) (spelled : AllZip IsReadAs told lists).
    plan_of_run (run told) lists c.in_ok-tables.ensures.sound spelled old new failed r
    (subst (λ (files : List (List OpView)). IsPlanOutcome (print_of (run told)) files (option_copied c.args.schedule) old new failed r) (ap lists_of c.deref.ensures.value)
    (subst (λ (tables : TableValues). IsPlanOutcome (printed tables c.args.width c.args.base) (lists_of c.deref.result.now) (option_copied c.args.schedule) old new failed r) c.in_ok-tables.ensures.ok c.run.ensures)) in
    run_told _ _ _ _ (λ files. IsReplayOutcome (run files) old new failed) (λ told. AllZip IsReadAs told lists) r planned c.in_ok-lists.ensures.ok

pub returns-in_err-tables-clause-asked : goal.returns-in_err-tables-clause-asked
returns-in_err-tables-clause-asked g c = none_were_asked _
