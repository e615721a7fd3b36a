-- A gap that is carried has its side.
use Rattle.live_document.proofs.Carried.{keeps-side}
use Rattle.live_document.proofs.laws.gaps_are_carried.Goals as goal

pub returns : goal.returns
returns c = keeps-side
