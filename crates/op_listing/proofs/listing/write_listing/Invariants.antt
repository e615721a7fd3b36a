-- What stays true in the loop of `write_listing`.
use Rattle.std.proofs.Common.{◌≡◌, take}
use Rattle.op_listing.specs.Listing.{listing_of}
use Rattle.op_listing.proofs.listing.write_listing.Given as goal

abbrev pub invariant-loop-op : goal.invariant-loop-op
invariant-loop-op l = l.text.items ≡ listing_of (take l.op-index l.ops)
