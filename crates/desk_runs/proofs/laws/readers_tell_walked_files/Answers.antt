-- The goals of `readers_tell_files` that are answered by hand.
use Rattle.desk_files.proofs.Interface.{over_told}
use Rattle.desk_runs.specs.CaretsOutcome.{IsCaretsOutcome}
use Rattle.desk_runs.proofs.laws.readers_tell_walked_files.Goals as goal

pub returns : goal.returns
returns c = λ files left lost asks old new failed result. over_told files left lost _ (λ told. IsCaretsOutcome (asks told) old new failed) result
