-- The goals of `parents_first` that are answered by hand.
use Rattle.rga_tree.proofs.ParentsFirst.{IsListedParent-before}
use Rattle.rga_tree.proofs.laws.parents_first.Goals as goal

pub returns : goal.returns
returns c s well = IsListedParent-before s
