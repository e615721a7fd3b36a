-- The goals of `finish` that are answered by hand.
use Rattle.std.proofs.Common.{sym, ap, ◌∙◌, subst}
use Rattle.op_codec.specs.Feed.{kept_fault, Standing, StandsAfter}
use Rattle.op_codec.proofs.Streams.{ends_spelled, ends_faulty}
use Rattle.op_codec.proofs.stream.Stream.finish.Goals as goal

pub returns-in-Some-clause-fault : goal.returns-in-Some-clause-fault
returns-in-Some-clause-fault c =
    let old = c.self.inside in
    let s : Standing = record { position = old.position; kept = old.kept.items } in
    let shown = ap (kept_fault old.position) (sym c.deref.ensures.0) ∙ sym c.first_fault.ensures ∙ c.in-Some.is in
    λ bytes before h. ends_faulty s bytes before c.in-Some.frame c.in-Some.cause shown (subst (λ t. StandsAfter t bytes before) (sym c.self.view_is) h)

pub returns-in-None-clause-ok : goal.returns-in-None-clause-ok
returns-in-None-clause-ok c =
    let old = c.self.inside in
    let s : Standing = record { position = old.position; kept = old.kept.items } in
    let shown = ap (kept_fault old.position) (sym c.deref.ensures.0) ∙ sym c.first_fault.ensures ∙ c.in-None.is in
    λ bytes before h. ends_spelled s bytes before shown (subst (λ t. StandsAfter t bytes before) (sym c.self.view_is) h)
