-- The goals of `preorder` that are answered by hand.
use Rattle.rga_tree.proofs.PreorderLaw.{walk-preorder}
use Rattle.rga_tree.proofs.laws.preorder.Goals as goal

pub returns : goal.returns
returns c = walk-preorder
