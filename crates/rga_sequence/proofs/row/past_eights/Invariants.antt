-- What stays true in the loop of `past_eights`.
use Rattle.std.proofs.Common.{◌≤◌, ◌-◌, length}
use Rattle.rga_sequence.proofs.row.past_eights.Given as goal

abbrev pub invariant-loop-at : goal.invariant-loop-at
invariant-loop-at l = l.at ≤ length l.row

abbrev pub decreases-loop-at : goal.decreases-loop-at
decreases-loop-at l = length l.row - l.at
