-- What stays true in the loop of `push_waiting`.
use Rattle.std.proofs.Common.{◌≡◌, ◌++◌, take}
use Rattle.desk_replica.specs.Placement.{waiting_in}
use Rattle.desk_replica.proofs.replica.listing.push_waiting.Given as goal

abbrev pub invariant-loop-j : goal.invariant-loop-j
invariant-loop-j l = l.ops.items ≡ l.fn.ops.items ++ take l.j (waiting_in l.held)
