-- The goals of `paragraph_level` that are answered by hand.
use Rattle.std.proofs.Common.{refl}
use Rattle.bidi_explicit.proofs.level.paragraph_level.Goals as goal

pub returns-in-Right-clause-level : goal.returns-in-Right-clause-level
returns-in-Right-clause-level c = rw c.in-Right.is refl
