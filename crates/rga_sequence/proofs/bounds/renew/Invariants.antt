-- What stays true in the loop of `renew`.
use Rattle.rga_sequence.specs.BlockRows.{items_of}
use Rattle.rga_sequence.specs.Bounds.{AreBoundsBelow}
use Rattle.rga_sequence.proofs.bounds.renew.Given as goal

abbrev pub invariant-loop-p : goal.invariant-loop-p
invariant-loop-p l = AreBoundsBelow l.p l.bounds (items_of l.blocks)
