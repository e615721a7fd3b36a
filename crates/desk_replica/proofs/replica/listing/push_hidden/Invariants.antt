-- What stays true in the loop of `push_hidden`.
use Rattle.std.proofs.Common.{◌≡◌, ◌++◌, take}
use Rattle.desk_replica.specs.Listed.{deletions_in}
use Rattle.desk_replica.proofs.replica.listing.push_hidden.Given as goal

abbrev pub invariant-loop-e : goal.invariant-loop-e
invariant-loop-e l = l.ops.items ≡ l.fn.ops.items ++ deletions_in (take l.e-index l.row)
