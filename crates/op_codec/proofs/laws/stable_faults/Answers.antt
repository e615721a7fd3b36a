-- The goals of `stable_faults` that are answered by hand.
use Rattle.op_codec.proofs.Pieces.{lasting}
use Rattle.op_codec.proofs.laws.stable_faults.Goals as goal

pub returns : goal.returns
returns c = lasting
