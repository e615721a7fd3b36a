-- What stays true in the loop of `push_deletions`.
use Rattle.std.proofs.Common.{◌≡◌, ◌++◌, take}
use Rattle.desk_replica.specs.Listed.{deletions_in}
use Rattle.desk_replica.proofs.InTurn.{joined}
use Rattle.desk_replica.proofs.replica.listing.push_deletions.Given as goal

abbrev pub invariant-loop-p : goal.invariant-loop-p
invariant-loop-p g l = l.ops.items ≡ l.fn.ops.items ++ deletions_in (joined (take l.p (g.S.Sequence.parts l.seq)))
