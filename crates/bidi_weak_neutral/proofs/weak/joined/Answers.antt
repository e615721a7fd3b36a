-- The goals of `joined` that are answered by hand.
use Rattle.std.proofs.Common.{refl}
use Rattle.bidi_weak_neutral.proofs.weak.joined.Goals as goal

pub returns-then-is_joined : goal.returns-then-is_joined
returns-then-is_joined c = rw (← c.is_joined.ensures, c.if-is_joined.true) refl

pub returns-else-is_joined : goal.returns-else-is_joined
returns-else-is_joined c = rw (← c.is_joined.ensures, c.if-is_joined.false) refl
