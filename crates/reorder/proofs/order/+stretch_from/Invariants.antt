-- What stays true in the loop of `+stretch_from`.
use Rattle.std.proofs.Common.{length, ◌-◌}
use Rattle.reorder.proofs.Stretches.{IsStretch}
use Rattle.reorder.proofs.order.+stretch_from.Given as goal

abbrev pub decreases-stretch_from : goal.decreases-stretch_from
decreases-stretch_from l = length l.levels.now - l.start

abbrev pub invariant-loop-end : goal.invariant-loop-end
invariant-loop-end l = IsStretch l.levels l.fn.links l.links l.start l.end l.floor l.level l.piece.first l.piece.last

abbrev pub decreases-loop-end : goal.decreases-loop-end
decreases-loop-end l = length l.levels - l.end
