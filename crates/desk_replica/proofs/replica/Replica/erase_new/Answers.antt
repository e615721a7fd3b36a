-- The goals of `erase_new` that are answered by hand.
use Rattle.std.proofs.Common.{[], ◌∷◌, sym, ap, subst, ◌∙◌, refl, arith}
use Rattle.desk_replica.specs.Merging.{IsGrownBy, is_deletion}
use Rattle.desk_replica.proofs.Growing.{shows_still}
use Rattle.desk_replica.proofs.Hearing.{heard_nothing}
use Rattle.desk_replica.proofs.replica.Replica.erase_new.Goals as goal

pub returns-then-not-e-clause-heard : goal.returns-then-not-e-clause-heard
returns-then-not-e-clause-heard g c =
    heard_nothing c.args.self.now.set c.args.self.now.set (g.L.Listener.told c.args.listener.now) (g.L.Listener.told c.args.listener.now) (g.L.Listener.capacity c.args.listener.now) (g.L.Listener.capacity c.args.listener.now)
    c.requires.well_formed refl refl (omega arith)

pub returns-then-inserts-clause-heard : goal.returns-then-inserts-clause-heard
returns-then-inserts-clause-heard g c =
    heard_nothing c.args.self.now.set c.args.self.now.set (g.L.Listener.told c.args.listener.now) (g.L.Listener.told c.args.listener.now) (g.L.Listener.capacity c.args.listener.now) (g.L.Listener.capacity c.args.listener.now)
    c.requires.well_formed refl refl (omega arith)

pub returns-in_err-take_one-clause-shows : goal.returns-in_err-take_one-clause-shows
returns-in_err-take_one-clause-shows g c =
    let s = c.args.self.now.set in
    let u = c.take_one.new.self.set in
    let gone = c.if-inserts.false in
    shows_still s u c.args.e.now.id c.requires.well_formed (sym c.inserts.ensures ∙ gone) (c.take_one.ensures.insertions (ap is_deletion c.erase.ensures.value))
    (subst (λ op. IsGrownBy s (op ∷ []) u) c.erase.ensures.value c.take_one.ensures.grown.grown)

pub returns-clause-shows : goal.returns-clause-shows
returns-clause-shows g c =
    let s = c.args.self.now.set in
    let u = c.take_one.new.self.set in
    let gone = c.if-inserts.false in
    shows_still s u c.args.e.now.id c.requires.well_formed (sym c.inserts.ensures ∙ gone) (c.take_one.ensures.insertions (ap is_deletion c.erase.ensures.value))
    (subst (λ op. IsGrownBy s (op ∷ []) u) c.erase.ensures.value c.take_one.ensures.grown.grown)
