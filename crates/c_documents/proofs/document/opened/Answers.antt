-- The file is taken by the desk of the document.
use Rattle.std.proofs.Common.{inr, ℕ, subst}
use Rattle.desk_replica.specs.Desk.{Desk, fresh}
use Rattle.c_desks.specs.Desks.{IsMessageTaken}
use Rattle.c_documents.proofs.document.opened.Goals as goal

pub returns-then-answer-ne-OK-clause-fault : goal.returns-then-answer-ne-OK-clause-fault
returns-then-answer-ne-OK-clause-fault c =
    let taken = c.take_in-answer in
    inr (taken.new.desk, subst (λ (d : Desk). IsMessageTaken d c.args.file.now taken.new.desk taken.new.taken taken.result) c.in_ok-desk.ensures.ok.0 taken.ensures.taken)

pub returns-in-Ok-clause-ok : goal.returns-in-Ok-clause-ok
returns-in-Ok-clause-ok c =
    let taken = c.take_in-answer in
    let of_fresh = subst (λ (d : Desk). IsMessageTaken d c.args.file.now taken.new.desk taken.new.taken taken.result) c.in_ok-desk.ensures.ok.0 taken.ensures.taken in
    let all = subst (λ (answer : ℕ). IsMessageTaken (fresh c.args.site) c.args.file.now taken.new.desk taken.new.taken answer) c.if-answer-ne-OK.false of_fresh in
    (record { desk = taken.new.desk; taken = all; made = c.in-Ok.ensures.ok.0 }, c.in_ok-desk.ensures.ok.1, c.in-Ok.ensures.ok.1)
