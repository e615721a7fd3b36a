-- The goals of `write_listing` that are answered by hand.
use Rattle.std.proofs.Common.{List, ℕ, ◌++◌, ap, ◌∙◌}
use Rattle.std.proofs.lemmas.List.{take_all}
use Rattle.op_listing.specs.Listing.{line_of, listing_of}
use Rattle.op_listing.proofs.Listings.{listing-more}
use Rattle.op_listing.proofs.listing.write_listing.Goals as goal

pub loop-op-preserved : goal.loop-op-preserved
loop-op-preserved c =
    let op = c.op-item.result in
    c.in_ok-push_line.ensures ∙ ap (λ (s : List ℕ). s ++ line_of op) c.loop-op.invariant ∙ listing-more c.args.ops.now c.loop-op.op-index op c.loop-op-test.true c.op-item.is

pub returns : goal.returns
returns c = c.loop-op.invariant ∙ ap listing_of (take_all c.loop-op.op-index c.args.ops.now c.loop-op-test.false)
