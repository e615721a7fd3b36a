-- What stays true in the loop of `count`.
use Rattle.rga_sequence.specs.BlockRows.{items_of}
use Rattle.rga_sequence.specs.Sums.{AreSumsBelow}
use Rattle.rga_sequence.proofs.sums.count.Given as goal

abbrev pub invariant-loop-g : goal.invariant-loop-g
invariant-loop-g l = AreSumsBelow l.g l.sums (items_of l.blocks)
