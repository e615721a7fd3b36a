-- The goals of `one_more_leaf` that are answered by hand.
use Rattle.rga_tree.proofs.LeafWalk.{walk-leaf_at}
use Rattle.rga_tree.proofs.laws.one_more_leaf.Goals as goal

pub returns : goal.returns
returns c s well tree id node = walk-leaf_at s id node well tree
