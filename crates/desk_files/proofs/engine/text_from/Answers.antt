-- The goals of `text_from` that are answered by hand.
use Rattle.std.proofs.Common.{Ok, Err, string_bytes, subst}
use Rattle.std.specs.Io.KnownBytes.{Appends}
use Rattle.std.proofs.KnownBytes.{Keeps-refl}
use Rattle.bg_types.specs.Sink.{AppendsBeginning}
use Rattle.desk_files.specs.declared.run_fault.RunFault.TheVariants as run
use Rattle.desk_files.specs.Cause.{IsTakingCaused}
use Rattle.desk_files.specs.TextOutcome.{IsTextOfFiles, IsTextOutcome, IsTextOutcomeOver}
use Rattle.desk_files.proofs.Answered.{text_unwritten, text_written, text_begun}
use Rattle.desk_files.proofs.HandedOn.{answer_handed}
use Rattle.desk_files.proofs.Readings.{run_ended, run_told}
use Rattle.desk_files.proofs.engine.text_from.Goals as goal

pub returns-in_err-read-clause-outcome : goal.returns-in_err-read-clause-outcome
returns-in_err-read-clause-outcome g c =
    let old = g.S.Sink.written c.args.out.now in
    let failed = g.S.Sink.has_failed c.args.out.now in
    let fault = c.in_err-read.field-0.0 in
    answer_handed (IsTextOutcomeOver _ _ _ old old failed) c.from_residual.result fault c.from_residual.ensures.1
    (run_ended _ _ _ _ (λ files. IsTextOutcome files old old failed) IsTakingCaused fault (λ n lost. (c.requires.working, Keeps-refl old)) (λ files. text_unwritten files old failed fault c.requires.working) c.in_err-read.ensures.fault)

pub returns-in_err-put_all-clause-outcome : goal.returns-in_err-put_all-clause-outcome
returns-in_err-put_all-clause-outcome g c =
    let old = g.S.Sink.written c.args.out.now in
    let new = g.S.Sink.written c.put_all.new.sink in
    let failed = g.S.Sink.has_failed c.put_all.new.sink in
    answer_handed (IsTextOutcomeOver _ _ _ old new failed) c.from_residual-in_err-put_all.result run.Device c.from_residual-in_err-put_all.ensures.1
    (run_told _ _ _ _ (λ files. IsTextOutcome files old new failed) (λ files. IsTextOfFiles files (string_bytes c.in_ok-read.read)) (Err run.Device)
    (λ files read. text_begun files _ old new failed read c.in_err-put_all.ensures.failed (subst (AppendsBeginning old new) c.as_bytes.ensures.value c.in_err-put_all.ensures.err)) c.in_ok-read.ensures.ok)

pub returns-clause-outcome : goal.returns-clause-outcome
returns-clause-outcome g c =
    let old = g.S.Sink.written c.args.out.now in
    let new = g.S.Sink.written c.put_all.new.sink in
    let failed = g.S.Sink.has_failed c.put_all.new.sink in
    run_told _ _ _ _ (λ files. IsTextOutcome files old new failed) (λ files. IsTextOfFiles files (string_bytes c.in_ok-read.read)) (Ok tt)
    (λ files read. text_written files _ old new failed read c.in_ok-put_all.ensures.failed (subst (Appends old new) c.as_bytes.ensures.value c.in_ok-put_all.ensures.ok)) c.in_ok-read.ensures.ok
