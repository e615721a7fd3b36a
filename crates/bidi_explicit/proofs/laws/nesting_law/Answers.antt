-- The machine's frame, proved by induction over the nodes.
use Rattle.bidi_explicit.proofs.FlatLemmas.{returns as machine-returns, over-overflow}
use Rattle.bidi_explicit.proofs.laws.nesting_law.Goals as goal

pub returns-clause-frame : goal.returns-clause-frame
returns-clause-frame c = machine-returns

pub returns-clause-overflow : goal.returns-clause-overflow
returns-clause-overflow c = over-overflow
