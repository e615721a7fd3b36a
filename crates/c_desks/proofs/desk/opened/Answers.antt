-- A desk that refuses the file is one that took it as far as is told.
use Rattle.std.proofs.Common.{inr, ◌∙◌, subst}
use Rattle.desk_replica.specs.Desk.{Desk}
use Rattle.c_desks.specs.Desks.{IsMessageTaken}
use Rattle.c_desks.proofs.desk.opened.Goals as goal

pub returns-else-answer-eq-OK-clause-fault : goal.returns-else-answer-eq-OK-clause-fault
returns-else-answer-eq-OK-clause-fault c =
    let taken = c.take_in-answer in
    let fresh_is = c.deref_mut.ensures.value ∙ c.in_ok-boxed.ensures.ok.0 in
    inr (inr (taken.new.desk, subst (λ (d : Desk). IsMessageTaken d c.args.file.now taken.new.desk taken.new.taken taken.result) fresh_is taken.ensures.taken))
