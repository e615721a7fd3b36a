-- The goals of `get` that are answered by hand.
use Rattle.std.proofs.Common.{refl}
use Rattle.op_codec.proofs.input.InSource.get.Goals as goal

pub returns-in-Err-clause-end : goal.returns-in-Err-clause-end
returns-in-Err-clause-end g c = tt

pub returns-in-Err-clause-failed : goal.returns-in-Err-clause-failed
returns-in-Err-clause-failed g c = refl
