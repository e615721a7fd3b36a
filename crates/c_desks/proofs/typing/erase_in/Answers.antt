-- Nothing is put in the place of what is erased.
use Rattle.std.proofs.Common.{ℕ, List, length, subst}
use Rattle.std.proofs.lemmas.Str.{chars-nil}
use Rattle.c_desks.specs.Desks.{IsReplaced, IsRefusedExchange}
use Rattle.c_desks.proofs.Erased.{erased_stretch, not_erased}
use Rattle.c_desks.proofs.typing.erase_in.Goals as goal

pub returns-clause-ok : goal.returns-clause-ok
returns-clause-ok c =
    let old = c.args.desk.now in
    let it = c.exchange_in in
    λ done. erased_stretch old it.new.desk c.args.from c.args.to c.args.out.now it.new.out it.new.size
    (subst (λ (typed : List ℕ). IsReplaced old c.args.from c.args.to typed it.new.desk c.args.out.now it.new.out it.new.size) chars-nil (it.ensures.ok done))

pub returns-clause-fault : goal.returns-clause-fault
returns-clause-fault c =
    let old = c.args.desk.now in
    let it = c.exchange_in in
    λ fails. not_erased old c.args.from c.args.to (length c.args.out.now) it.new.size it.result
    (subst (λ (typed : List ℕ). IsRefusedExchange old c.args.from c.args.to (length typed) (length c.args.out.now) it.new.size it.result) chars-nil (it.ensures.fault fails))
