-- The goals of `i1` that are answered by hand.
use Rattle.std.proofs.Common.{refl}
use Rattle.bidi_weak_neutral.proofs.neutral.i1.Goals as goal

pub returns-then-is_number : goal.returns-then-is_number
returns-then-is_number c = rw (← c.is_number.ensures, c.if-is_number.true, ← c.eq.ensures, c.if-eq.false) refl
