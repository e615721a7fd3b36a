-- The goals of `walk_order` that are answered by hand.
use Rattle.rga_tree.proofs.OneOrder.{Precedes-attached, Precedes-either, Precedes-never_both, Precedes-in_turn}
use Rattle.rga_tree.proofs.laws.walk_order.Goals as goal

pub returns-clause-attached : goal.returns-clause-attached
returns-clause-attached c = Precedes-attached

pub returns-clause-either : goal.returns-clause-either
returns-clause-either c = Precedes-either

pub returns-clause-never_both : goal.returns-clause-never_both
returns-clause-never_both c = Precedes-never_both

pub returns-clause-in_turn : goal.returns-clause-in_turn
returns-clause-in_turn c = Precedes-in_turn
