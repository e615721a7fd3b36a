-- The goals of `sub_walk` that are answered by hand.
use Rattle.rga_tree.proofs.TreeAttached.{IsAttached-more}
use Rattle.rga_tree.proofs.SubWalk.{walk-sub_walk, is_attached-test, inserted_part}
use Rattle.rga_tree.proofs.laws.sub_walk.Goals as goal

pub returns-clause-walk : goal.returns-clause-walk
returns-clause-walk c = walk-sub_walk

pub returns-clause-test : goal.returns-clause-test
returns-clause-test c = is_attached-test

pub returns-clause-stays : goal.returns-clause-stays
returns-clause-stays c s t part id at = IsAttached-more s.ins t.ins (inserted_part s t part) at
