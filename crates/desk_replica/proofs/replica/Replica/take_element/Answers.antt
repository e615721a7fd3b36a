-- The goals of `take_element` that are answered by hand.
use Rattle.std.proofs.Common.{[], ◌∷◌, ap, subst}
use Rattle.std.proofs.lemmas.Result.{err_from_is_err_and}
use Rattle.bg_types.specs.declared.op.OpView.TheVariants.{Erase}
use Rattle.desk_replica.specs.Desk.{insertion_of}
use Rattle.desk_replica.specs.Listed.{deletions_in, operations_in}
use Rattle.desk_replica.specs.Merging.{IsGrown, is_deletion}
use Rattle.desk_replica.proofs.Growing.{desk_then, inserted_by, listed_behind, listed_front, stopped_listed}
use Rattle.desk_replica.proofs.Hearing.{heard_more}
use Rattle.desk_replica.proofs.Tellings.{stays_shown}
use Rattle.desk_replica.proofs.replica.Replica.take_element.Goals as goal

pub returns-in_err-erase_new-clause-fault : goal.returns-in_err-erase_new-clause-fault
returns-in_err-erase_new-clause-fault g c =
    let e = c.args.e.now in
    let p = err_from_is_err_and c.from_residual.result c.from_residual.ensures.1 in
    rw (p.1, p.2) (stopped_listed c.erase_new.new.self (deletions_in (e ∷ [])) (operations_in (e ∷ [])) (g.L.Listener.told c.args.listener.now) (g.L.Listener.told c.erase_new.new.listener) (g.L.Listener.capacity c.args.listener.now)
    c.in_err-erase_new.field-0.0 c.in_err-erase_new.ensures.fault (listed_behind e))

pub returns-clause-erased : goal.returns-clause-erased
returns-clause-erased g c = λ hidden there. c.take_one.ensures.grown.grown.keeps (Erase c.args.e.now.id) (c.in_ok-erase_new.ensures.ok hidden)

pub returns-clause-no_other : goal.returns-clause-no_other
returns-clause-no_other g c =
    let e = c.args.e.now in
    let one = subst (λ op. IsGrown c.erase_new.new.self (op ∷ []) c.take_one.new.self) c.insertion_of.ensures c.take_one.ensures.grown in
    inserted_by c.args.self.now.set c.take_one.new.self.set e
    (desk_then c.args.self.now c.erase_new.new.self c.take_one.new.self (deletions_in (e ∷ [])) (insertion_of e ∷ []) (operations_in (e ∷ [])) c.erase_new.ensures.grown one (listed_behind e) (listed_front e)).grown

pub returns-clause-heard : goal.returns-clause-heard
returns-clause-heard g c =
    heard_more c.args.self.now.set c.erase_new.new.self.set c.take_one.new.self.set (g.L.Listener.told c.args.listener.now) (g.L.Listener.told c.erase_new.new.listener) (g.L.Listener.told c.take_one.new.listener)
    (g.L.Listener.capacity c.args.listener.now) (g.L.Listener.capacity c.erase_new.new.listener) (g.L.Listener.capacity c.take_one.new.listener) c.erase_new.ensures.heard c.take_one.ensures.heard
    (stays_shown c.args.self.now.set c.erase_new.new.self.set c.take_one.new.self.set (c.take_one.ensures.shows (ap is_deletion c.insertion_of.ensures)))
