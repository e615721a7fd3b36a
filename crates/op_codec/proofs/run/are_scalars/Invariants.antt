-- What stays true in the loop of `are_scalars`.
use Rattle.std.proofs.Common.{◌≡◌, length}
use Rattle.std.specs.List.{list_all}
use Rattle.std.proofs.Math.Utf8.{scalar}
use Rattle.op_codec.specs.Fault.{characters_in}
use Rattle.op_codec.proofs.run.are_scalars.Given as goal

abbrev pub invariant-loop-rest : goal.invariant-loop-rest
invariant-loop-rest l = list_all scalar (characters_in l.bytes) ≡ list_all scalar (characters_in l.rest)

abbrev pub decreases-loop-rest : goal.decreases-loop-rest
decreases-loop-rest l = length l.rest
