-- The goals of `no_reuse` that are answered by hand.
use Rattle.std.proofs.Common.{inl, inr}
use Rattle.desk_replica.proofs.WorldRuns.{IsSound-world, no_reuse}
use Rattle.desk_replica.proofs.laws.no_reuse.Goals as goal

pub returns : goal.returns
returns c = record {
  delivered = λ sites w v steps replies world run k desk op step reply. no_reuse sites world.are_sites w v steps replies (IsSound-world sites w world) run k desk op (inl step) reply;
  merged = λ sites w v steps replies world run k desk from step reply. no_reuse sites world.are_sites w v steps replies (IsSound-world sites w world) run k desk from (inr step) reply;
}
