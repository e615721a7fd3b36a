-- What stays true in the loop of `read_listing`.
use Rattle.std.proofs.Common.{◌+◌, ◌≤◌, length}
use Rattle.op_listing.proofs.ReadLines.{IsReadTo}
use Rattle.op_listing.proofs.listing.read_listing.Given as goal

abbrev pub invariant-loop-rest : goal.invariant-loop-rest
invariant-loop-rest l = record {
  read : IsReadTo l.listing l.rest l.number l.ops.items;
  within : l.number + length l.rest ≤ length l.listing;
}

abbrev pub decreases-loop-rest : goal.decreases-loop-rest
decreases-loop-rest l = length l.rest
