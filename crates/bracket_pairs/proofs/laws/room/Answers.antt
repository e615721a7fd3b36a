-- The goals of `room` that are answered by hand.
use Rattle.std.proofs.Common.{refl}
use Rattle.bracket_pairs.proofs.laws.room.Goals as goal

pub returns-clause-enough : goal.returns-clause-enough
returns-clause-enough c = refl

pub returns-clause-full : goal.returns-clause-full
returns-clause-full c = refl

pub returns-clause-kept : goal.returns-clause-kept
returns-clause-kept c = refl
