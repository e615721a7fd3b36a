-- The goals of `carets_from` that are answered by hand.
use Rattle.std.proofs.Common.{ℕ, List, Ok, Err, string_bytes, subst, inl}
use Rattle.std.specs.Io.KnownBytes.{Appends}
use Rattle.std.proofs.KnownBytes.{Keeps-refl}
use Rattle.bg_types.specs.Sink.{AppendsBeginning}
use Rattle.desk_files.specs.declared.run_fault.RunFault.TheVariants as run
use Rattle.desk_files.specs.Written.{IsSilent}
use Rattle.desk_runs.specs.CaretsOutcome.{Asked, asked, IsWalked, IsWalkCaused, IsCaretsOutcome, IsCaretsOutcomeOver}
use Rattle.desk_runs.proofs.WalkAnswers.{lines_written, lines_begun}
use Rattle.desk_files.proofs.Interface.{answer_handed, run_ended, run_told}
use Rattle.desk_runs.proofs.walking.carets_from.Goals as goal

pub returns-in_err-lines-clause-outcome : goal.returns-in_err-lines-clause-outcome
returns-in_err-lines-clause-outcome g c =
    let asks : List (List ℕ) → Asked = λ told. asked c.args.ucd.now c.args.width c.args.base told c.args.place c.args.moves.now in
    let old = g.S.Sink.written c.args.out.now in
    let failed = g.S.Sink.has_failed c.args.out.now in
    let quiet : IsSilent old old failed = (c.requires.working, Keeps-refl old) in
    let fault = c.in_err-lines.field-0.0 in
    answer_handed (IsCaretsOutcomeOver _ _ _ asks old old failed) c.from_residual.result fault c.from_residual.ensures.1
    (run_ended _ _ _ _ (λ files. IsCaretsOutcome (asks files) old old failed) (λ files. IsWalkCaused (asks files)) fault (λ n lost. (quiet, λ files. c.in_err-lines.ensures.tables_first n lost)) (λ files h. inl (h, quiet)) c.in_err-lines.ensures.fault)

pub returns-in_err-put_all-clause-outcome : goal.returns-in_err-put_all-clause-outcome
returns-in_err-put_all-clause-outcome g c =
    let asks : List (List ℕ) → Asked = λ told. asked c.args.ucd.now c.args.width c.args.base told c.args.place c.args.moves.now in
    let old = g.S.Sink.written c.args.out.now in
    let new = g.S.Sink.written c.put_all.new.sink in
    let failed = g.S.Sink.has_failed c.put_all.new.sink in
    answer_handed (IsCaretsOutcomeOver _ _ _ asks old new failed) c.from_residual-in_err-put_all.result run.Device c.from_residual-in_err-put_all.ensures.1
    (run_told _ _ _ _ (λ files. IsCaretsOutcome (asks files) old new failed) (λ files. IsWalked (asks files) (string_bytes c.in_ok-lines.lines)) (Err run.Device)
    (λ files walked. lines_begun (asks files) old new failed _ walked c.in_err-put_all.ensures.failed (subst (AppendsBeginning old new) c.as_bytes.ensures.value c.in_err-put_all.ensures.err)) c.in_ok-lines.ensures.ok)

pub returns-clause-outcome : goal.returns-clause-outcome
returns-clause-outcome g c =
    let asks : List (List ℕ) → Asked = λ told. asked c.args.ucd.now c.args.width c.args.base told c.args.place c.args.moves.now in
    let old = g.S.Sink.written c.args.out.now in
    let new = g.S.Sink.written c.put_all.new.sink in
    let failed = g.S.Sink.has_failed c.put_all.new.sink in
    run_told _ _ _ _ (λ files. IsCaretsOutcome (asks files) old new failed) (λ files. IsWalked (asks files) (string_bytes c.in_ok-lines.lines)) (Ok tt)
    (λ files walked. lines_written (asks files) old new failed _ walked c.in_ok-put_all.ensures.failed (subst (Appends old new) c.as_bytes.ensures.value c.in_ok-put_all.ensures.ok)) c.in_ok-lines.ensures.ok
