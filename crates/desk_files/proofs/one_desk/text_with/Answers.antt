-- The goals of `text_with` that are answered by hand.
use Rattle.std.proofs.Common.{string_bytes}
use Rattle.desk_files.specs.Readers.{EndsOver}
use Rattle.desk_files.specs.Files.{IsSetOfFiles}
use Rattle.desk_files.specs.Cause.{IsTakingCaused}
use Rattle.desk_files.specs.TextOutcome.{IsTextOfFiles}
use Rattle.desk_files.proofs.HandedOn.{err_handed}
use Rattle.desk_files.proofs.Answered.{text-read, text-unread}
use Rattle.desk_files.proofs.Readings.{err_over, ok_over}
use Rattle.desk_files.proofs.one_desk.text_with.Goals as goal

pub returns-in_err-take_files-clause-fault : goal.returns-in_err-take_files-clause-fault
returns-in_err-take_files-clause-fault g c = err_handed (EndsOver _ _ _ IsTakingCaused) c.from_residual.result c.in_err-take_files.field-0.0 c.from_residual.ensures.1 c.in_err-take_files.ensures.fault

pub returns-clause-ok : goal.returns-clause-ok
returns-clause-ok g c =
    let set = c.take_files.new.desk.set in
    ok_over _ _ (λ told. IsSetOfFiles told set) (λ told text. IsTextOfFiles told (string_bytes text)) c.text_of.result c.in_ok-take_files.ensures.ok
    (λ told of_files. text-read told set string_bytes c.text_of.result of_files c.in_ok-take_files.ensures.limited c.text_of.ensures.value)

pub returns-clause-fault : goal.returns-clause-fault
returns-clause-fault g c =
    err_over _ _ _ (λ told. IsSetOfFiles told c.take_files.new.desk.set) IsTakingCaused c.text_of.result c.in_ok-take_files.ensures.ok (λ told of_files. text-unread told c.text_of.result c.text_of.ensures.fault)
