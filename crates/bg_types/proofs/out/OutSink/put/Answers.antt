-- The goals of `put` that are answered by hand.
use Rattle.std.proofs.Common.{refl}
use Rattle.bg_types.proofs.out.OutSink.put.Goals as goal

pub returns-in_default-clause-failed : goal.returns-in_default-clause-failed
returns-in_default-clause-failed g c = refl
