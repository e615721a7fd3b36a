-- The goals of `one_refusal` that are answered by hand.
use Rattle.desk_replica.proofs.Refusals.{same_refusal, same_merge_refusal, one_refusal}
use Rattle.desk_replica.proofs.laws.one_refusal.Goals as goal

pub returns : goal.returns
returns c = record { alike = same_refusal; merges = same_merge_refusal; first = one_refusal }
