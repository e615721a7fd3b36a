-- The goals of `release_loop` that are answered by hand.
use Rattle.pending_ops.proofs.Loop.{places_below}
use Rattle.pending_ops.proofs.laws.release_loop.Goals as goal

pub returns : goal.returns
returns c = places_below
