-- The entry is the state behind the text with the code point.
use Rattle.line_break.proofs.PairTable.{IsBehind-next}
use Rattle.line_break.proofs.state.State.next.Goals as goal

pub returns : goal.returns
returns c = λ front b p k. IsBehind-next front _ b p _ k
