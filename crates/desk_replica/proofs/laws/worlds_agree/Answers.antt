-- The goals of `worlds_agree` that are answered by hand.
use Rattle.desk_replica.proofs.WorldRuns.{IsSound-world, desk_later}
use Rattle.desk_replica.proofs.WorldLaws.{agree_worlds, walk_worlds}
use Rattle.desk_replica.proofs.laws.worlds_agree.Goals as goal

pub returns : goal.returns
returns c = record {
  made = λ sites w world. (IsSound-world sites w world).of_made;
  well_formed = λ sites w world. (IsSound-world sites w world).well_formed;
  part = desk_later;
  agree = agree_worlds;
  walk = walk_worlds;
}
