-- The goals of `new` that are answered by hand.
use Rattle.rga_tree.proofs.Placing.{KeepsWalk-nothing}
use Rattle.rga_tree.proofs.plain.Plain.new.Goals as goal

pub invariant_of-result : goal.invariant_of-result
invariant_of-result c = record { keeps_walk = KeepsWalk-nothing _ c.new.ensures.items }
