-- The goals of `file_with` that are answered by hand.
use Rattle.desk_runs.proofs.Answered.{made, not_made}
use Rattle.desk_runs.proofs.typing.file_with.Goals as goal

pub returns-in-Ok-clause-ok : goal.returns-in-Ok-clause-ok
returns-in-Ok-clause-ok g c =
    made _ _ c.args.change.now c.args.text.now c.utf8.text c.take_files.new.desk.set c.in-Ok.ensures.ok (λ file. file.items) c.args.version c.file_at.result c.file_at.ensures.fits c.file_at.ensures.spelled

pub returns-in-Ok-clause-fault : goal.returns-in-Ok-clause-fault
returns-in-Ok-clause-fault g c = not_made _ _ c.args.change.now c.args.text.now c.utf8.text c.take_files.new.desk.set c.in-Ok.ensures.ok _ c.file_at.result c.file_at.ensures.fault

pub returns-in-Err-clause-fault : goal.returns-in-Err-clause-fault
returns-in-Err-clause-fault g c = (c.utf8.text, c.in-Err.ensures.fault)
