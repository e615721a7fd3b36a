-- The entry is the rules' value.
use Rattle.line_break.proofs.PairTable.{status-at}
use Rattle.line_break.proofs.state.State.status_before.Goals as goal

pub returns : goal.returns
returns c = λ front b p k. status-at front _ b p _ k
