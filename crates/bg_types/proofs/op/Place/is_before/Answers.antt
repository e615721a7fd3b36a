-- The goals of `is_before` that are answered by hand.
use Rattle.std.proofs.lemmas.Bool.{lt-ltb, ltb-true}
use Rattle.bg_types.proofs.op.Place.is_before.Goals as goal

pub returns-in-After : goal.returns-in-After
returns-in-After c =
    rw (c.in-After.is, c.counter.ensures.value, c.counter-in-After.ensures.value)
    (λ less. (c.counter.ensures.identifier, ltb-true _ _ less), λ may. lt-ltb _ _ may.1)
