-- The goals of `readers_tell_files` that are answered by hand.
use Rattle.desk_runs.specs.ReplayOutcome.{IsReplayOutcome}
use Rattle.desk_files.proofs.Interface.{over_told}
use Rattle.desk_runs.proofs.laws.readers_tell_files.Goals as goal

pub returns : goal.returns
returns c = λ files left lost gives old new failed result. over_told files left lost _ (λ told. IsReplayOutcome (gives told) old new failed) result
