-- The goals of `one_order` that are answered by hand.
use Rattle.rga_tree.proofs.OneOrder.{Precedes-agree, StandsBetween-agree, Precedes-more}
use Rattle.rga_tree.proofs.laws.one_order.Goals as goal

pub returns-clause-agree : goal.returns-clause-agree
returns-clause-agree c = Precedes-agree

pub returns-clause-between : goal.returns-clause-between
returns-clause-between c = StandsBetween-agree

pub returns-clause-more : goal.returns-clause-more
returns-clause-more c = Precedes-more
