-- L1 has been applied from the end on.
use Rattle.std.proofs.Common.{◌≡◌, ◌≤◌, length, vec_len}
use Rattle.reorder.proofs.L1.{IsResetFrom}
use Rattle.reorder.proofs.line.levels_after_l1.Given as goal

abbrev pub invariant-loop-end : goal.invariant-loop-end
invariant-loop-end l = record {
  len : vec_len l.after ≡ length l.classes;
  within : l.end ≤ length l.classes;
  done : IsResetFrom l.para_level l.classes l.levels l.end l.after.items;
}

abbrev pub decreases-loop-end : goal.decreases-loop-end
decreases-loop-end l = l.end
