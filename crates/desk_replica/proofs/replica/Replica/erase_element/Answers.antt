-- The goals of `erase_element` that are answered by hand.
use Rattle.std.proofs.Common.{sym, ◌∙◌, refl, true≢false, arith}
use Rattle.std.proofs.lemmas.Bool.{OnTrue_at}
use Rattle.desk_replica.proofs.Hearing.{heard_nothing}
use Rattle.desk_replica.proofs.replica.Replica.erase_element.Goals as goal

pub returns-then-not-e-clause-heard : goal.returns-then-not-e-clause-heard
returns-then-not-e-clause-heard g c =
    heard_nothing c.args.self.now.set c.args.self.now.set (g.L.Listener.told c.args.listener.now) (g.L.Listener.told c.args.listener.now) (g.L.Listener.capacity c.args.listener.now) (g.L.Listener.capacity c.args.listener.now)
    c.requires.well_formed refl refl (omega arith)

pub returns-then-hides-clause-heard : goal.returns-then-hides-clause-heard
returns-then-hides-clause-heard g c =
    heard_nothing c.args.self.now.set c.args.self.now.set (g.L.Listener.told c.args.listener.now) (g.L.Listener.told c.args.listener.now) (g.L.Listener.capacity c.args.listener.now) (g.L.Listener.capacity c.args.listener.now)
    c.requires.well_formed refl refl (omega arith)

pub returns-then-is_beyond-clause-heard : goal.returns-then-is_beyond-clause-heard
returns-then-is_beyond-clause-heard g c =
    heard_nothing c.args.self.now.set c.args.self.now.set (g.L.Listener.told c.args.listener.now) (g.L.Listener.told c.args.listener.now) (g.L.Listener.capacity c.args.listener.now) (g.L.Listener.capacity c.args.listener.now)
    c.requires.well_formed refl refl (omega arith)

pub returns-then-is_beyond-clause-ok : goal.returns-then-is_beyond-clause-ok
returns-then-is_beyond-clause-ok g c = λ _ kept. absurd (true≢false (sym kept ∙ OnTrue_at c.if-is_beyond.true c.is_beyond.ensures))
