-- The goals of `rearrangement` that are answered by hand.
use Rattle.reorder.proofs.Rearranged.{visual_list-permutes}
use Rattle.reorder.proofs.laws.rearrangement.Goals as goal

pub returns : goal.returns
returns c = visual_list-permutes
