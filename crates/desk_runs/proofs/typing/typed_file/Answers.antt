-- The goals of `typed_file` that are answered by hand.
use Rattle.desk_files.proofs.Interface.{none_were_asked}
use Rattle.desk_runs.proofs.Answered.{made_of, not_made_of}
use Rattle.desk_runs.proofs.typing.typed_file.Goals as goal

pub returns-clause-ok : goal.returns-clause-ok
returns-clause-ok g c = made_of _ _ c.args.change.now c.in-Ok.text.now c.args.text.now c.in-Ok.ensures.cases.0 c.file_with-file.result (λ file. file.items) c.args.version c.file_with-file.ensures.ok

pub returns-clause-fault : goal.returns-clause-fault
returns-clause-fault g c = not_made_of _ _ c.args.change.now c.in-Ok.text.now c.args.text.now c.in-Ok.ensures.cases.0 c.file_with-file.result _ c.file_with-file.ensures.fault

pub returns-in-Err-clause-asked : goal.returns-in-Err-clause-asked
returns-in-Err-clause-asked g c = none_were_asked _
