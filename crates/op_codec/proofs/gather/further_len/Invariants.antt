-- What stays true in the loop of `further_len`.
use Rattle.op_codec.proofs.Gathers.{IsGathered}
use Rattle.op_codec.proofs.gather.further_len.Given as goal

abbrev pub invariant-loop-count : goal.invariant-loop-count
invariant-loop-count l = IsGathered l.first l.ops l.count l.tip
