-- The goals of `carets_are_decided` that are answered by hand.
use Rattle.desk_runs.proofs.CaretsDecided.{carets_decided}
use Rattle.desk_runs.proofs.laws.carets_are_decided.Goals as goal

pub returns : goal.returns
returns c = λ a old new failed result. carets_decided a (c.one_outcome.ensures a.files) old new failed result
