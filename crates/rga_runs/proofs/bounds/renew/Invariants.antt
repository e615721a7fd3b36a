-- What stays true in the loop of `renew`.
use Rattle.rga_runs.specs.BlockRows.{items_of}
use Rattle.rga_runs.specs.Bounds.{AreBoundsBelow}
use Rattle.rga_runs.proofs.bounds.renew.Given as goal

abbrev pub invariant-loop-p : goal.invariant-loop-p
invariant-loop-p l = AreBoundsBelow l.p l.bounds (items_of l.blocks)
