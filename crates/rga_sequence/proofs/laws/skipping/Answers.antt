-- The goals of `skipping` that are answered by hand.
use Rattle.rga_tree.proofs.Interface.{walk-leaf_attached}
use Rattle.rga_sequence.proofs.laws.skipping.Goals as goal

pub returns : goal.returns
returns c = λ s well id node is new none stands. walk-leaf_attached s id node well is new none stands
