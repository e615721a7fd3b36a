-- The goals of `readers_tell_files` that are answered by hand.
use Rattle.desk_files.specs.TextOutcome.{IsTextOutcome}
use Rattle.desk_files.proofs.Readings.{over_told}
use Rattle.desk_files.proofs.laws.readers_tell_files.Goals as goal

pub returns : goal.returns
returns c = λ files left lost old new failed result. over_told files left lost _ (λ told. IsTextOutcome told old new failed) result
